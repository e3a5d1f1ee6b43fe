-- One end a turn, after the ones before it.
use Prim.Native.Nat.{◌-◌, ◌*◌, ◌≤◌}
use mathlib.Core.Path.{◌≡◌}
use lib.ListN.{length, take}
use Rattle.lm_ots.proofs.Rows.{joined}
use Rattle.lm_ots.proofs.candidate.put_ends.Given as goal

abbrev pub invariant-loop-i : goal.invariant-loop-i
invariant-loop-i l =
    (length l.out ≡ length l.initial.out) × (take (32 * l.i) l.out ≡ joined l.v l.i) × (length l.v ≡ 2120)
