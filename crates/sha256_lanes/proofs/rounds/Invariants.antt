-- Two words of the schedule and two rounds a turn, in each lane.
use Prim.Native.Nat.{ℕ, ◌+◌, ◌-◌, ◌%◌, ◌≤◌, ◌<◌}
use mathlib.Core.Path.{◌≡◌}
use mathlib.Core.List.{List}
use lib.ListN.{length, get_or}
use Rattle.sha256.specs.Sha256.{schedule, rounds}
use Rattle.sha256_lanes.specs.Lane.{Lane, lane, word_in}
use Rattle.sha256_lanes.proofs.rounds.Given as goal

abbrev pub invariant-loop-i : goal.invariant-loop-i
invariant-loop-i now =
    (4 ≤ now.i) × (now.i ≤ 64) × (now.i % 2 ≡ 0) × (length now.w ≡ 256) × (length now.k ≡ 256)
    × ((l : Lane) (m : List ℕ) → length m ≡ 16 → ((n : ℕ) → n < 16 → word_in l now.initial.w n ≡ get_or m n 0)
    → ((n : ℕ) → n < 16 + (now.i - 16) → word_in l now.w n ≡ get_or (schedule m) n 0)
    × (lane l now.s ≡ rounds (now.i - 4) 4 (schedule m) (lane l now.initial.s)))

abbrev pub decreases-loop-i : goal.decreases-loop-i
decreases-loop-i l = 64 - l.i
