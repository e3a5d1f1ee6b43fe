-- A word a turn.
use Prim.Native.Nat.{ℕ, ◌+◌, ◌≤◌, ◌<◌}
use mathlib.Core.Path.{◌≡◌}
use mathlib.Core.List.{List}
use lib.ListN.{length, get_or}
use Rattle.sha256.specs.Sha256.{schedule}
use Rattle.sha256_lanes.specs.Lane.{Lane, word_in}
use Rattle.sha256_lanes.proofs.words_at.Given as goal

abbrev pub invariant-loop-j : goal.invariant-loop-j
invariant-loop-j now =
    (length now.w ≡ length now.initial.w)
    × ((l : Lane) (m : List ℕ) → length m ≡ 16 → now.i + 2 ≤ 64 → ((n : ℕ) → n < now.i → word_in l now.initial.w n ≡ get_or (schedule m) n 0)
    → (n : ℕ) → n < now.j → word_in l now.w n ≡ get_or (schedule m) n 0)
