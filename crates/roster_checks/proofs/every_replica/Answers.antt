-- The first answer that is false, or none, gives what all of them give.
use mathlib.Core.Path.{◌≡◌}
use mathlib.Core.Bool.{true, false}
use mathlib.Core.Logic.{⊎_elim}
use Prim.Native.Nat.{◌≤◌}
use native.Mathlib.Nat.{eq-or-lt_of_le}
use native.Mathlib.Omega.{arith}
use Rattle.roster.proofs.EveryReplica.{each_held, one_failed}
use Rattle.roster_checks.proofs.every_replica.Goals as goal
use Rattle.roster_checks.proofs.every_replica.Goals.{else-loop-k-test, then-loop-k-test+else-not-test+else-k-n}

pub returns-then-not-test : goal.returns-then-not-test
returns-then-not-test g c =
    λ says is. one_failed says c.args.n c.loop-k.k (omega arith) (omega arith) (is c.loop-k.k false c.if-not-test.ensures)

-- the loop ends before its first turn, or after the last
pub returns : goal.returns
returns g c = λ says is.
    elim c.loop-k-test.branch [
      | else-loop-k-test w ↦ each_held says c.args.n (λ k low high. is k true (c.loop-k.invariant k low (omega arith)))
      | then-loop-k-test+else-not-test+else-k-n w ↦
          each_held says c.args.n (λ k low high.
          let reached : k ≤ c.loop-k.k = omega arith in
          ⊎_elim
          (λ (e : k ≡ c.loop-k.k). rw e (is c.loop-k.k true w.if-not-test.ensures))
          (λ l. is k true (c.loop-k.invariant k low l))
          (eq-or-lt_of_le reached))
    ]
