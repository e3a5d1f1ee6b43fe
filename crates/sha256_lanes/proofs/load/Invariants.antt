-- One word of each lane a turn.
use Prim.Native.Nat.{ℕ, ◌<◌}
use mathlib.Core.Path.{◌≡◌}
use lib.ListN.{length, get_or}
use Rattle.sha256_lanes.specs.Lane.{Lane, lane, word_in}
use Rattle.sha256_lanes.proofs.load.Given as goal

abbrev pub invariant-loop-i : goal.invariant-loop-i
invariant-loop-i now =
    (length now.w ≡ 256) × ((l : Lane) (n : ℕ) → n < now.i → word_in l now.w n ≡ get_or (lane l now.b) n 0)
