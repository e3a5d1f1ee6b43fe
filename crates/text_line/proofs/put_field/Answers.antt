-- The word, then the number.
use mathlib.Core.Path.{refl}
use Prim.Native.Nat.{◌+◌}
use native.Mathlib.Nat.{le_refl}
use lib.ListN.{length}
use Rattle.text_decimal.specs.Put.{Put}
use Rattle.text_decimal.proofs.Puts.{put_then}
use Rattle.text_line.proofs.put_field.Goals as goal

pub returns : goal.returns
returns c =
    let a = c.args in
    let bytes = c.put_bytes in
    let word : Put a.out.now bytes.new.out a.at (a.at + length a.word.now) a.word.now (length a.word.now) =
    record { stored = bytes.ensures; after = refl; few = le_refl (length a.word.now) } in
    put_then word c.put_decimal.ensures
