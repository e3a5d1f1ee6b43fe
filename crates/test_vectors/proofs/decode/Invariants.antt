-- The `n` bytes decoded so far took two digits each.
use Rattle.std.proofs.Common.{length, ◌+◌, ◌≤◌}
use Rattle.test_vectors.proofs.decode.Given as goal

abbrev pub invariant-loop-n : goal.invariant-loop-n
invariant-loop-n l = l.n + l.n ≤ length l.digits
