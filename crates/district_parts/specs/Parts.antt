-- The submissions of a district in one buffer (document 02, W1: "up to nine submissions of a district, end
-- to end in one buffer, with a list of u32 lengths").
use Rattle.std.specs.Prelude.{Bool, ℕ, ◌+◌, eqb, leb, length, take, drop}
use mathlib.Core.List.{List, [], ◌∷◌, sum}
use Rattle.refusal.specs.Checks.{all}

-- the parts, end to end, by their lengths
unfoldable pub parts : List ℕ → List ℕ → List (List ℕ)
parts [] buffer = []
parts (size ∷ sizes) buffer = take size buffer ∷ parts sizes (drop size buffer)

-- 17: "fewer than 2 or more than 9 lengths"
abbrev pub count_least : ℕ
count_least = 2

abbrev pub count_most : ℕ
count_most = 9

unfoldable pub counted : List ℕ → Bool
counted lengths = all (leb count_least (length lengths) ∷ leb (length lengths) count_most ∷ [])

-- 18: "the lengths do not add up to the buffer", as whole numbers
unfoldable pub total : List ℕ → ℕ
total lengths = sum ◌+◌ 0 lengths

unfoldable pub adds_up : List ℕ → List ℕ → Bool
adds_up lengths buffer = eqb (total lengths) (length buffer)
