-- Big-endian unsigned numbers as lists of bytes (document 01, "The parts ordered": u16 is 2 bytes, u32 is 4).
-- Width is the count of bytes, and stays a parameter.
use Rattle.std.specs.Prelude.{Bool, true, false, cond, List, [], ◌∷◌, ℕ, zero}
use Rattle.std.specs.Prelude.{suc, ◌+◌, ◌*◌, ◌/◌, ◌%◌, ◌^◌, eqb, length, take, drop}

-- the number that a list of bytes stands for, highest byte first
unfoldable pub number : List ℕ → ℕ
number [] = 0
number (b ∷ bs) = b * 256 ^ length bs + number bs

-- the lowest `width` bytes of a number, highest byte first
unfoldable pub be : ℕ → ℕ → List ℕ
be zero n = []
be (suc width) n = n / 256 ^ width % 256 ∷ be width n

-- the number that stands in `width` bytes from the place `at` on
unfoldable pub number_at : ℕ → List ℕ → ℕ → ℕ
number_at width bytes at = number (take width (drop at bytes))

-- whether two lists of bytes are the same
unfoldable pub same : List ℕ → List ℕ → Bool
same [] [] = true
same [] (y ∷ ys) = false
same (x ∷ xs) [] = false
same (x ∷ xs) (y ∷ ys) = cond (eqb x y) (same xs ys) false
