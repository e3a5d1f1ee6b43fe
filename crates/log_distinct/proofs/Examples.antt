-- Worked examples: terms are counted as a set, also where they fall or come back.
-- Assumes nothing.
use mathlib.Core.Path.{◌≡◌, refl}
use mathlib.Core.List.{[], ◌∷◌, map}
use Prim.Native.Nat.{ℕ}
use Rattle.log_chain.specs.Log.{Record}
use Rattle.log_distinct.specs.Distinct.{occurs, distinct}

of : ℕ → Record
of t = record { term = t; digest = [] }

-- two that come back, three that fall, 0 as a term of its own, and no record
counts : (distinct (map of (1 ∷ 2 ∷ 1 ∷ 2 ∷ [])) ≡ 2) × (distinct (map of (3 ∷ 2 ∷ 2 ∷ 1 ∷ [])) ≡ 3) × (distinct (map of (0 ∷ 5 ∷ 0 ∷ [])) ≡ 2)
    × (distinct [] ≡ 0)
unfolding occurs distinct of
counts = (refl, refl, refl, refl)
