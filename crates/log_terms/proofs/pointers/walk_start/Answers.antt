-- No record, and pointer 0 twice.
use mathlib.Core.Path.{refl}
use Rattle.log_terms.proofs.pointers.walk_start.Goals as goal

pub returns : goal.returns
returns c = record { end = refl; pointed = c.pointers_zero.ensures }
