-- Worked examples of both sides: parts with an empty one among them, counts, and sums that come right only modulo 2^32.
-- Assumes nothing.
use mathlib.Core.Path.{◌≡◌, refl}
use mathlib.Core.Bool.{true, false}
use mathlib.Core.List.{[], ◌∷◌, sum}
use lib.ListN.{replicate}
use Rattle.refusal.specs.Checks.{all}
use Rattle.district_parts.specs.Parts.{parts, counted, total, adds_up}

cut : parts (2 ∷ 0 ∷ 1 ∷ []) (7 ∷ 8 ∷ 9 ∷ []) ≡ (7 ∷ 8 ∷ []) ∷ [] ∷ (9 ∷ []) ∷ []
unfolding parts
cut = refl

counts : (counted [] ≡ false) × (counted (replicate 1 0) ≡ false) × (counted (replicate 2 0) ≡ true) × (counted (replicate 9 0) ≡ true)
    × (counted (replicate 10 0) ≡ false)
unfolding counted all
counts = (refl, refl, refl, refl, refl)

sums : (adds_up (2 ∷ 0 ∷ 1 ∷ []) (7 ∷ 8 ∷ 9 ∷ []) ≡ true) × (adds_up (1 ∷ 1 ∷ []) (7 ∷ 8 ∷ 9 ∷ []) ≡ false) × (adds_up (3 ∷ 1 ∷ []) (7 ∷ 8 ∷ 9 ∷ []) ≡ false)
    × (adds_up (3 ∷ 4294967295 ∷ 1 ∷ []) (7 ∷ 8 ∷ 9 ∷ []) ≡ false)
unfolding adds_up total sum
sums = (refl, refl, refl, refl)
