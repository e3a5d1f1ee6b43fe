-- The test held of each replica before.
use Rattle.std.proofs.Common.{ℕ, true, ◌<◌}
use Rattle.roster_checks.proofs.every_replica.Given as goal

abbrev pub invariant-loop-k : goal.invariant-loop-k
invariant-loop-k g l = (j : ℕ) → 0 < j → j < l.k → goal.F-post g l.test j true
