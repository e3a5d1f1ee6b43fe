-- One row a turn: those that are left give what all of them give.
use mathlib.Core.Path.{◌≡◌}
use Prim.Native.Nat.{◌-◌, ◌*◌}
use lib.ListN.{drop}
use Rattle.assembly_copies.specs.Rows.{taken_size}
use Rattle.assembly_choice.specs.Settled.{all_taken}
use Rattle.assembly_choice.proofs.all_taken.Given as goal

abbrev pub invariant-loop-t : goal.invariant-loop-t
invariant-loop-t l = all_taken (l.count - l.t) (drop (taken_size * l.t) l.taken) ≡ all_taken l.count l.taken
