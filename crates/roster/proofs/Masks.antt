-- A replica whose bit is a one stands in the mask's list of replicas: by induction over the bits. Masks with no one, and two together.
-- Assumes nothing.
use mathlib.Core.Path.{◌≡◌, ap, ◌∙◌}
use mathlib.Core.Bool.{true, false, cond}
use mathlib.Core.List.Memᴰ
use mathlib.Core.List.{◌∷◌, Memᴰ}
use mathlib.Core.Logic.{◌⊎◌, inl, inr, ⊎_elim}
use Prim.Native.Nat.{ℕ, zero, suc, ◌+◌, ◌-◌, ◌/◌, ◌%◌, ◌^◌, ◌≤◌, ◌<◌, zero-le}
use native.Mathlib.Nat.{div-one, zero-div}
use native.Mathlib.Omega.{arith}
use borrow.Author.Tests.{eq-eqb, eqb-true, eqb-false}
use lib.Bits.{bit_or, or_add_and, and_le_l, and_le_r, or_comm, or_mod, or_self, or_shr, or_zero_l, or_zero_r}
use lib.Count.{ones, ones_step}
use lib.Dec.{eqb}
use lib.ListN.{length}
use Rattle.refusal.proofs.Laws.{look}
use Rattle.roster.specs.Masks.{signer, replicas_from, replicas_of}
use Rattle.roster.proofs.Quorums.{shift}

listed_from : (bits k mask j : ℕ) → j < bits → mask / 2 ^ j % 2 ≡ 1 → Memᴰ (k + j) (replicas_from bits k mask)
unfolding replicas_from
listed_from zero k mask j h e = absurd (omega arith)
listed_from (suc bits) k mask zero h e =
    let odd : mask % 2 ≡ 1 = rw div-one at e in
    let place : k + 0 ≡ k = omega arith in
    rw (eq-eqb (mask % 2) 1 odd) (Memᴰ.head place)
listed_from (suc bits) k mask (suc j) h e = go (look (eqb (mask % 2) 1))
    (Memᴰ.cast (omega arith) (listed_from bits (suc k) (mask / 2) j (omega arith) (rw (shift mask j) at e)))
  where
    go : (eqb (mask % 2) 1 ≡ true) ⊎ (eqb (mask % 2) 1 ≡ false) → Memᴰ (k + suc j) (replicas_from bits (suc k) (mask / 2))
        → Memᴰ (k + suc j) (cond (eqb (mask % 2) 1) (k ∷ replicas_from bits (suc k) (mask / 2)) (replicas_from bits (suc k) (mask / 2)))
    go (inl o) m = rw o (Memᴰ.tail m)
    go (inr o) m = rw o m

pub listed : (mask k : ℕ) → 0 < k → k ≤ 16 → signer mask k ≡ true → Memᴰ k (replicas_of mask)
unfolding signer replicas_of
listed mask k p h e = Memᴰ.cast (omega arith) (listed_from 16 1 mask (k - 1) (omega arith) (eqb-true _ 1 e))

-- a mask with a signer is not 0
pub signer_positive : (mask k : ℕ) → signer mask k ≡ true → 0 < mask
unfolding signer
signer_positive zero k e = absurd (omega (arith, zero-div (2 ^ (k - 1)), eqb-true (0 / 2 ^ (k - 1) % 2) 1 e))
signer_positive (suc mask) k e = omega arith

-- and 0 has none
pub signer-none : (k : ℕ) → signer 0 k ≡ false
signer-none k = ⊎_elim (λ (e : signer 0 k ≡ true). absurd (omega (arith, signer_positive 0 k e))) (λ e. e) (look (signer 0 k))

-- a mask lists no more replicas than it has ones
pub replicas-few : (bits k mask : ℕ) → length (replicas_from bits k mask) ≤ ones mask
unfolding replicas_from
replicas-few zero k mask = zero-le
replicas-few (suc bits) k mask = go (look (eqb (mask % 2) 1)) (replicas-few bits (suc k) (mask / 2))
  where
    go : (eqb (mask % 2) 1 ≡ true) ⊎ (eqb (mask % 2) 1 ≡ false) → length (replicas_from bits (suc k) (mask / 2)) ≤ ones (mask / 2)
        → length (cond (eqb (mask % 2) 1) (k ∷ replicas_from bits (suc k) (mask / 2)) (replicas_from bits (suc k) (mask / 2))) ≤ ones mask
    go (inl o) h = rw o (omega (arith, ones_step mask, eqb-true (mask % 2) 1 o, h))
    go (inr o) h = rw o (omega (arith, ones_step mask, h))

-- ---- two masks together

-- a union is no smaller than either
pub or-le : (a b : ℕ) → (a ≤ bit_or a b) × (b ≤ bit_or a b)
or-le a b = (omega (arith, or_add_and a b, and_le_r a b), omega (arith, or_add_and a b, and_le_l a b))

-- a union has a signer only where one of the two has
pub or_clear : (a b k : ℕ) → signer a k ≡ false → signer b k ≡ false → signer (bit_or a b) k ≡ false
unfolding signer
or_clear a b k e d =
    let j = k - 1 in
    let low : (x : ℕ) → eqb (x % 2) 1 ≡ false → x % 2 ^ 1 ≡ 0 = λ x h. let z = eqb-false (x % 2) 1 h in omega arith in
    let none : bit_or (a / 2 ^ j) (b / 2 ^ j) % 2 ^ 1 ≡ 0 =
    or_mod (a / 2 ^ j) (b / 2 ^ j) 1 ∙ ap (λ x. bit_or x (b / 2 ^ j % 2 ^ 1)) (low (a / 2 ^ j) e) ∙ or_zero_l (b / 2 ^ j % 2 ^ 1) ∙ low (b / 2 ^ j) d in
    let even : bit_or (a / 2 ^ j) (b / 2 ^ j) % 2 ≡ 0 = none in
    rw (or_shr a b j, even)

-- and has every signer of each
or_low : (x y : ℕ) → x % 2 ≡ 1 → bit_or x y % 2 ≡ 1
or_low x y e =
    let one : x % 2 ^ 1 ≡ 1 = e in
    let either : (y % 2 ^ 1 ≡ 0) ⊎ (y % 2 ^ 1 ≡ 1) =
    ⊎_elim (λ (h : eqb (y % 2 ^ 1) 0 ≡ true). inl (eqb-true _ 0 h)) (λ h. let z = eqb-false (y % 2 ^ 1) 0 h in inr (omega arith)) (look (eqb (y % 2 ^ 1) 0)) in
    or_mod x y 1 ∙ ap (λ z. bit_or z (y % 2 ^ 1)) one
    ∙ ⊎_elim (λ (h : y % 2 ^ 1 ≡ 0). ap (bit_or 1) h ∙ or_zero_r 1) (λ h. ap (bit_or 1) h ∙ or_self 1) either

pub or_left : (a b k : ℕ) → signer a k ≡ true → signer (bit_or a b) k ≡ true
unfolding signer
or_left a b k e = eq-eqb _ 1 (ap (λ z. z % 2) (or_shr a b (k - 1)) ∙ or_low (a / 2 ^ (k - 1)) (b / 2 ^ (k - 1)) (eqb-true _ 1 e))

pub or_right : (a b k : ℕ) → signer b k ≡ true → signer (bit_or a b) k ≡ true
or_right a b k e = ap (λ z. signer z k) (or_comm a b) ∙ or_left b a k e
