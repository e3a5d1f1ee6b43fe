-- Operations on words and the message schedule, as FIPS 180-4 defines them. Words are of 32 bits, numbers
-- below 2^32.
use Rattle.std.specs.Prelude.{ℕ, zero, suc, ◌+◌, ◌-◌, ◌*◌, ◌/◌, ◌%◌, ◌^◌}
use Rattle.std.specs.Prelude.{List, [], ◌∷◌, ◌++◌, bit_and, bit_or, bit_xor, slice_index, slice_index_or}

infixl 65 ◌⊞◌
-- ---- operations on words

-- 2.2.2: addition modulo 2^32
unfoldable pub ◌⊞◌ : ℕ → ℕ → ℕ
x ⊞ y = (x + y) % 2 ^ 32

-- 3.2, 3 and 4: SHR and ROTR
unfoldable pub shr : ℕ → ℕ → ℕ
shr n x = x / 2 ^ n

unfoldable pub rotr : ℕ → ℕ → ℕ
rotr n x = bit_or (shr n x) (x * 2 ^ (32 - n) % 2 ^ 32)

-- ---- 4.1.2: the functions

-- (x and y) xor (not x and z)
unfoldable pub ch : ℕ → ℕ → ℕ → ℕ
ch x y z = bit_xor (bit_and x y) (bit_and (2 ^ 32 - 1 - x) z)

unfoldable pub maj : ℕ → ℕ → ℕ → ℕ
maj x y z = bit_xor (bit_xor (bit_and x y) (bit_and x z)) (bit_and y z)

unfoldable pub Σ₀ : ℕ → ℕ
Σ₀ x = bit_xor (bit_xor (rotr 2 x) (rotr 13 x)) (rotr 22 x)

unfoldable pub Σ₁ : ℕ → ℕ
Σ₁ x = bit_xor (bit_xor (rotr 6 x) (rotr 11 x)) (rotr 25 x)

unfoldable pub σ₀ : ℕ → ℕ
σ₀ x = bit_xor (bit_xor (rotr 7 x) (rotr 18 x)) (shr 3 x)

unfoldable pub σ₁ : ℕ → ℕ
σ₁ x = bit_xor (bit_xor (rotr 17 x) (rotr 19 x)) (shr 10 x)

-- ---- 6.2.2, step 1: the message schedule

-- W_t from the words before it, for t from 16 on
unfoldable pub next_word : List ℕ → ℕ → ℕ
next_word w t =
    σ₁ (slice_index w (t - 2)) ⊞ slice_index_or w (t - 7) 0
    ⊞ σ₀ (slice_index w (t - 15)) ⊞ slice_index_or w (t - 16) 0

-- the sixteen words of a block, and n words more
unfoldable pub extend : ℕ → List ℕ → List ℕ
extend zero m = m
extend (suc n) m = let w = extend n m in w ++ (next_word w (16 + n) ∷ [])

unfoldable pub schedule : List ℕ → List ℕ
schedule m = extend 48 m
