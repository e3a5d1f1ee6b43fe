-- What is left after the first lengths is the sum of the others just where the whole is the sum of all.
use mathlib.Core.Path.{◌≡◌}
use lib.Dec.{eqb}
use lib.ListN.{drop}
use Rattle.district_parts.specs.Parts.{total, adds_up}
use Rattle.district_parts.proofs.lengths_add_up.Given as goal

abbrev pub invariant-loop-size : goal.invariant-loop-size
invariant-loop-size l = eqb (total (drop l.size-index l.lengths)) l.left ≡ adds_up l.lengths l.buffer
