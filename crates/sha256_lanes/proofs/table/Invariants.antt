-- One constant a turn.
use Prim.Native.Nat.{ℕ, ◌<◌}
use mathlib.Core.Path.{◌≡◌}
use lib.ListN.{length, get_or}
use Rattle.sha256_tables.specs.Constants.{constants}
use Rattle.sha256_lanes.specs.Lane.{Lane, word_in}
use Rattle.sha256_lanes.proofs.table.Given as goal

abbrev pub invariant-loop-i : goal.invariant-loop-i
invariant-loop-i now = (length now.r ≡ 256) × ((l : Lane) (n : ℕ) → n < now.i → word_in l now.r n ≡ get_or constants n 0)
