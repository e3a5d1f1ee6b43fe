-- The constants of SHA-256 (FIPS 180-4, 4.2.2 and 5.3.3), and the rule that each table is claimed to follow.
use Rattle.std.specs.Prelude.{List, [], ◌∷◌, ℕ, suc, ◌+◌, ◌*◌, ◌%◌, ◌^◌, ◌≤◌, ◌<◌, ◌≡◌, length, get_or}

-- 4.2.2: K0 to K63
unfoldable pub constants : List ℕ
constants =
    0x428a2f98 ∷ 0x71374491 ∷ 0xb5c0fbcf ∷ 0xe9b5dba5 ∷
    0x3956c25b ∷ 0x59f111f1 ∷ 0x923f82a4 ∷ 0xab1c5ed5 ∷
    0xd807aa98 ∷ 0x12835b01 ∷ 0x243185be ∷ 0x550c7dc3 ∷
    0x72be5d74 ∷ 0x80deb1fe ∷ 0x9bdc06a7 ∷ 0xc19bf174 ∷
    0xe49b69c1 ∷ 0xefbe4786 ∷ 0x0fc19dc6 ∷ 0x240ca1cc ∷
    0x2de92c6f ∷ 0x4a7484aa ∷ 0x5cb0a9dc ∷ 0x76f988da ∷
    0x983e5152 ∷ 0xa831c66d ∷ 0xb00327c8 ∷ 0xbf597fc7 ∷
    0xc6e00bf3 ∷ 0xd5a79147 ∷ 0x06ca6351 ∷ 0x14292967 ∷
    0x27b70a85 ∷ 0x2e1b2138 ∷ 0x4d2c6dfc ∷ 0x53380d13 ∷
    0x650a7354 ∷ 0x766a0abb ∷ 0x81c2c92e ∷ 0x92722c85 ∷
    0xa2bfe8a1 ∷ 0xa81a664b ∷ 0xc24b8b70 ∷ 0xc76c51a3 ∷
    0xd192e819 ∷ 0xd6990624 ∷ 0xf40e3585 ∷ 0x106aa070 ∷
    0x19a4c116 ∷ 0x1e376c08 ∷ 0x2748774c ∷ 0x34b0bcb5 ∷
    0x391c0cb3 ∷ 0x4ed8aa4a ∷ 0x5b9cca4f ∷ 0x682e6ff3 ∷
    0x748f82ee ∷ 0x78a5636f ∷ 0x84c87814 ∷ 0x8cc70208 ∷
    0x90befffa ∷ 0xa4506ceb ∷ 0xbef9a3f7 ∷ 0xc67178f2 ∷ []

-- 5.3.3: H0 to H7 of the initial hash value
unfoldable pub initial_words : List ℕ
initial_words =
    0x6a09e667 ∷ 0xbb67ae85 ∷ 0x3c6ef372 ∷ 0xa54ff53a ∷
    0x510e527f ∷ 0x9b05688c ∷ 0x1f83d9ab ∷ 0x5be0cd19 ∷ []

unfoldable pub primes : List ℕ
primes =
    2 ∷ 3 ∷ 5 ∷ 7 ∷ 11 ∷ 13 ∷ 17 ∷ 19 ∷ 23 ∷ 29 ∷ 31 ∷ 37 ∷ 41 ∷ 43 ∷ 47 ∷ 53 ∷
    59 ∷ 61 ∷ 67 ∷ 71 ∷ 73 ∷ 79 ∷ 83 ∷ 89 ∷ 97 ∷ 101 ∷ 103 ∷ 107 ∷ 109 ∷ 113 ∷ 127 ∷ 131 ∷
    137 ∷ 139 ∷ 149 ∷ 151 ∷ 157 ∷ 163 ∷ 167 ∷ 173 ∷ 179 ∷ 181 ∷ 191 ∷ 193 ∷ 197 ∷ 199 ∷ 211 ∷ 223 ∷
    227 ∷ 229 ∷ 233 ∷ 239 ∷ 241 ∷ 251 ∷ 257 ∷ 263 ∷ 269 ∷ 271 ∷ 277 ∷ 281 ∷ 283 ∷ 293 ∷ 307 ∷ 311 ∷ []

-- p is a prime: above 1, and no number above 1 and below p divides it
pub record Prime (p : ℕ) : Type 0 where
  pub above-one : 1 < p
  pub no-divisor : (d : ℕ) → 1 < d → d < p → p % d ≡ 0 → ⊥

-- the list has, in rising order, each prime from n up to its last
pub data PrimesFrom : ℕ → List ℕ → Type 0 where
  done : {n : ℕ} → PrimesFrom n []
  skip : {n : ℕ} {ps : List ℕ} → (Prime n → ⊥) → PrimesFrom (suc n) ps → PrimesFrom n ps
  keep : {n : ℕ} {ps : List ℕ} → Prime n → PrimesFrom (suc n) ps → PrimesFrom n (n ∷ ps)

-- k is the first 32 bits of the fraction of p's root of the given degree, in whole numbers: with some whole
-- part, whole × 2^32 + k is the largest number whose power is at most p × 2^(32 × degree)
pub record RootFraction (degree p k : ℕ) : Type 0 where
  pub whole : ℕ
  pub word : k < 2 ^ 32
  pub below : (whole * 2 ^ 32 + k) ^ degree ≤ p * (2 ^ 32) ^ degree
  pub above : p * (2 ^ 32) ^ degree < (whole * 2 ^ 32 + k + 1) ^ degree

-- the first entries of a table are root fractions of the first primes, one after the other
unfoldable pub RootTable : ℕ → ℕ → List ℕ → Type 0
RootTable degree count table =
    (length table ≡ count)
    × ((t : ℕ) → t < count → RootFraction degree (get_or primes t 0) (get_or table t 0))

-- the claims: the first 64 primes, the cube roots (4.2.2), the square roots (5.3.3)
unfoldable pub FirstPrimes : Type 0
FirstPrimes = (length primes ≡ 64) × PrimesFrom 0 primes

unfoldable pub CubeRoots : Type 0
CubeRoots = RootTable 3 64 constants

unfoldable pub SquareRoots : Type 0
SquareRoots = RootTable 2 8 initial_words
