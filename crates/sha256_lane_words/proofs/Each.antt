-- What is so in each of the four lanes is so in every lane.
-- Assumes nothing.
use mathlib.Core.Path.{◌≡◌, refl}
use mathlib.Core.List.{List}
use Prim.Native.Nat.{ℕ}
use lib.ListN.{get_or}
use Rattle.sha256_lane_words.specs.declared.Lanes.{Lanes}
use Rattle.sha256_lane_words.specs.Lane.{Lane, first, second, third, fourth, lane}

pub each : (P : Lane → Type 0) → P first → P second → P third → P fourth → (l : Lane) → P l
each P a b c d first = a
each P a b c d second = b
each P a b c d third = c
each P a b c d fourth = d

-- the words of four lists at a place, side by side
pub picked : (b : Lanes (List ℕ)) (i : ℕ) (l : Lane)
    → lane l (get_or b.0 i 0, get_or b.1 i 0, get_or b.2 i 0, get_or b.3 i 0) ≡ get_or (lane l b) i 0
unfolding lane
picked b i = each _ refl refl refl refl
