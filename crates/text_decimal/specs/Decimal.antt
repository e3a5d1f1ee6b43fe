-- Numbers in decimal.
use Rattle.std.specs.Prelude.{cond, List, [], ◌∷◌, ◌++◌, ℕ, zero, suc, ◌+◌, ◌/◌, ◌%◌, ltb}

-- the digits of a number, highest first: a number below 10 is its digit, any other has the digits of a
-- tenth of it and then its last one
unfoldable pub digits : ℕ → ℕ → List ℕ
digits zero n = []
digits (suc steps) n = cond (ltb n 10) ((48 + n) ∷ []) (digits steps (n / 10) ++ (48 + n % 10) ∷ [])

-- each step makes the number less, so that n + 1 of them are enough
unfoldable pub decimal : ℕ → List ℕ
decimal n = digits (suc n) n
