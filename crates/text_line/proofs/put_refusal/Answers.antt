-- Two words with their numbers.
use mathlib.Core.Path.{sym}
use mathlib.Core.List.{◌++◌, append_assoc}
use Rattle.text_decimal.specs.Decimal.{decimal}
use Rattle.text_decimal.proofs.Puts.{put_then, put_same}
use Rattle.text_line.specs.Texts.{ascii, refusal_line}
use Rattle.text_line.proofs.put_refusal.Goals as goal

pub returns : goal.returns
unfolding refusal_line ascii
returns c =
    let a = c.args in
    let number = c.put_field-next.ensures in
    put_same (put_then number c.put_last.ensures)
    (sym (append_assoc (ascii "refusal " ++ decimal a.number) (ascii " in " ++ decimal a.place) (ascii "\n")))
