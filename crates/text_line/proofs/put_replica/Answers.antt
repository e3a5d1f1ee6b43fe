-- Three words with their numbers.
use mathlib.Core.Path.{sym}
use mathlib.Core.List.{◌++◌, append_assoc}
use Rattle.text_decimal.specs.Decimal.{decimal}
use Rattle.text_decimal.proofs.Puts.{put_then, put_same}
use Rattle.text_line.specs.Texts.{ascii, replica_line}
use Rattle.text_line.proofs.put_replica.Goals as goal

pub returns : goal.returns
unfolding replica_line ascii
returns c =
    let a = c.args in
    let replica = c.put_field-second.ensures in
    put_same (put_then (put_then replica c.put_field-third.ensures) c.put_last.ensures)
    (sym (append_assoc ((ascii "board " ++ decimal a.replica) ++ (ascii " rule " ++ decimal a.rule)) (ascii " term " ++ decimal a.term) (ascii "\n")))
