-- One term a turn: the rows passed are settled, the others as they were.
use mathlib.Core.Path.{◌≡◌}
use lib.ListN.{length}
use Rattle.assembly_choice.specs.Settled.{Settled}
use Rattle.assembly_choice.proofs.Settling.{Kept}
use Rattle.assembly_choice.proofs.settle.Given as goal

abbrev pub invariant-loop-t : goal.invariant-loop-t
invariant-loop-t l =
    (length l.taken ≡ length l.initial.taken) × Settled l.n l.candidate l.voted l.stamped l.t l.initial.taken l.taken × Kept l.t l.initial.taken l.taken
