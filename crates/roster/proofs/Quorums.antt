-- Two quorums' masks share a bit: the ones of two masks are those of either and of both, and two quorums have more than n.
-- Assumes nothing.
use mathlib.Core.Path.{◌≡◌, refl, ap, ◌∙◌}
use mathlib.Core.Bool.{true, false}
use Prim.Native.Nat.{ℕ, zero, suc, ◌+◌, ◌-◌, ◌*◌, ◌/◌, ◌%◌, ◌^◌, ◌≤◌, ◌<◌, min, max}
use native.Mathlib.Nat.{div-one, div-div-eq-div-mul, div-lt_iff_lt-mul, pow-suc, pow-succ'}
use native.Mathlib.Omega.{arith}
use mathlib.Core.Logic.{◌⊎◌, inl, inr}
use borrow.Author.Tests.{eq-eqb, eqb-true, eqb-false}
use lib.Bits.{bit_and, bit_or, and_step, or_step, and_shr, or_lt, and_lt}
use lib.Arith.{bin_ind}
use lib.Dec.{eqb, lit<}
use lib.Count.{ones, ones_step, ones-le}
use Rattle.refusal.proofs.Laws.{look}
use Rattle.roster.specs.Roster.{quorum}
use Rattle.roster.specs.Masks.{signer}

ones_digit : (a c : ℕ) → c < 2 → ones (a * 2 + c) ≡ ones a + c
ones_digit a c h =
    let half : (a * 2 + c) / 2 ≡ a = omega arith in
    let low : (a * 2 + c) % 2 ≡ c = omega arith in
    ones_step (a * 2 + c) ∙ rw (half, low) (omega arith)

-- the ones of either and of both
pub ones_either_both : (a b : ℕ) → ones (bit_or a b) + ones (bit_and a b) ≡ ones a + ones b
ones_either_both =
    bin_ind (λ (n : ℕ). (b : ℕ) → ones (bit_or n b) + ones (bit_and n b) ≡ ones n + ones b)
    (λ b. omega arith)
    (λ n ih b.
    let either = ap ones (or_step n b) ∙ ones_digit (bit_or (n / 2) (b / 2)) (max (n % 2) (b % 2)) (omega arith) in
    let both = ap ones (and_step n b) ∙ ones_digit (bit_and (n / 2) (b / 2)) (min (n % 2) (b % 2)) (omega arith) in
    omega (arith, either, both, ih (b / 2), ones_step n, ones_step b))

-- two quorums are more than all
pub quorum_twice : (n : ℕ) → 0 < n → n < quorum n + quorum n
unfolding quorum
quorum_twice n h = omega arith

-- two masks of n bits with a quorum each have a one in common
pub quorums_meet : (n a b : ℕ) → 0 < n → a < 2 ^ n → b < 2 ^ n → quorum n ≤ ones a → quorum n ≤ ones b → 0 < ones (bit_and a b)
quorums_meet n a b h ha hb qa qb =
    omega (arith, ones_either_both a b, quorum_twice n h, ones-le n (bit_or a b) (or_lt n a b ha hb))

-- ---- a replica in both

half_lt_pow : (n m : ℕ) → m < 2 ^ suc n → m / 2 < 2 ^ n
half_lt_pow n m h = (div-lt_iff_lt-mul (lit< tt)).1 (rw (← pow-suc 2 n) h)

odd_or_even : (m : ℕ) → (m % 2 ≡ 1 → ⊥) → m % 2 ≡ 0
odd_or_even m h = go (m % 2) refl
  where
    go : (r : ℕ) → m % 2 ≡ r → m % 2 ≡ 0
    go zero e = e
    go (suc zero) e = absurd (h e)
    go (suc (suc r)) e = omega arith

pub shift : (m j : ℕ) → m / 2 ^ suc j ≡ m / 2 / 2 ^ j
shift m j = rw (pow-succ', ← div-div-eq-div-mul m 2 (2 ^ j))

-- a mask with ones has one at some bit
find_bit : (n m : ℕ) → m < 2 ^ n → 0 < ones m → (j : ℕ) × (j < n) × (m / 2 ^ j % 2 ≡ 1)
find_bit zero m h p = absurd (omega (arith, ones-le 0 m h, p))
find_bit (suc n) m h p = go (look (eqb (m % 2) 1)) (λ q. find_bit n (m / 2) (half_lt_pow n m h) q)
  where
    go : (eqb (m % 2) 1 ≡ true) ⊎ (eqb (m % 2) 1 ≡ false)
        → (0 < ones (m / 2) → (j : ℕ) × (j < n) × (m / 2 / 2 ^ j % 2 ≡ 1))
        → (j : ℕ) × (j < suc n) × (m / 2 ^ j % 2 ≡ 1)
    go (inl e) more = (0, omega arith, rw div-one (eqb-true (m % 2) 1 e))
    go (inr e) more =
        let even : m % 2 ≡ 0 = odd_or_even m (eqb-false (m % 2) 1 e) in
        let r = more (omega (arith, ones_step m)) in
        (suc r.0, omega (arith, r.1), ap (λ (x : ℕ). x % 2) (shift m r.0) ∙ r.2)

-- a bit of both is a bit of each
both_bits : (a b j : ℕ) → bit_and a b / 2 ^ j % 2 ≡ 1 → (a / 2 ^ j % 2 ≡ 1) × (b / 2 ^ j % 2 ≡ 1)
both_bits a b j e =
    let x = a / 2 ^ j in
    let y = b / 2 ^ j in
    let parity : min (x % 2) (y % 2) ≡ 1 =
    let step = and_step x y in omega (arith, step, ap (λ (m : ℕ). m % 2) (and_shr a b j), e) in
    (omega arith, omega arith)

-- two quorums share a replica
pub quorums_share : (n a b : ℕ) → 0 < n → a < 2 ^ n → b < 2 ^ n → quorum n ≤ ones a → quorum n ≤ ones b
    → (k : ℕ) × (0 < k) × (k ≤ n) × (signer a k ≡ true) × (signer b k ≡ true)
unfolding signer
quorums_share n a b h ha hb qa qb =
    let j = find_bit n (bit_and a b) (and_lt n a b ha hb) (quorums_meet n a b h ha hb qa qb) in
    let both = both_bits a b j.0 j.2 in
    let place : suc j.0 - 1 ≡ j.0 = omega arith in
    (suc j.0, omega arith, j.1, rw place (eq-eqb _ _ both.0), rw place (eq-eqb _ _ both.1))
