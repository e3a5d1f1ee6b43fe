-- One byte, and the place after it.
use mathlib.Core.Path.{refl}
use native.Mathlib.Nat.{le_refl}
use Rattle.text_line.proofs.put_end.Goals as goal

pub returns : goal.returns
returns c = record { stored = refl; after = refl; few = le_refl 1 }
