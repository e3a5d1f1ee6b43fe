-- Replica k's signature in a certificate: it stands after those of the signers before it.
-- Assumes nothing.
use mathlib.Core.Path.{◌≡◌, refl, sym, ap}
use mathlib.Core.Bool.{true, false, cond}
use mathlib.Core.List.{List, [], ◌∷◌}
use mathlib.Core.Logic.{⊎_elim}
use Prim.Native.Nat.{ℕ, zero, suc, ◌+◌, ◌-◌, ◌*◌, ◌/◌, ◌%◌, ◌^◌, ◌≤◌, ◌<◌}
use native.Mathlib.Nat.{div-one, mul-one, mul-add, mul-le-mul_left}
use native.Mathlib.Omega.{arith}
use borrow.Author.Tests.{eq-eqb, ne_eqb, eqb-true, eqb-false}
use lib.Count.{ones, ones_step}
use lib.Dec.{eqb}
use lib.ListN.{take, drop}
use lib.Seq.{drop-drop}
use Rattle.refusal.proofs.Laws.{look}
use Rattle.roster.specs.Masks.{signer, replicas_from, replicas_of}
use Rattle.roster.proofs.Quorums.{shift}
use Rattle.log_chain.specs.Claim.{Claim}
use Rattle.lm_format.specs.Leaf.{leaf_size}
use Rattle.lm_format.specs.Uses.{Use}
use Rattle.submission.specs.View.{Slot, slot, certified}
use Rattle.submission.specs.Validate.{uses}
use Rattle.submission_uses.specs.Signed.{ones_below, signature_place}

-- ---- how many signers stand before it

pub ones_below_lem : (i mask : ℕ) → ones_below i mask + ones (mask / 2 ^ i) ≡ ones mask
unfolding ones_below
ones_below_lem zero mask = rw div-one (omega arith)
ones_below_lem (suc i) mask =
    let later : mask / 2 / 2 ^ i ≡ mask / 2 ^ suc i = sym (shift mask i) in
    let rest : ones_below i (mask / 2) + ones (mask / 2 ^ suc i) ≡ ones (mask / 2) = rw later at (ones_below_lem i (mask / 2)) in
    omega (arith, rest, ones_step mask)

-- and a signer is one more
pub one_more : (i mask : ℕ) → mask / 2 ^ i % 2 ≡ 1 → ones_below i mask + 1 ≤ ones mask
one_more i mask h = omega (arith, ones_below_lem i mask, ones_step (mask / 2 ^ i))

-- ---- its use, among those of a certificate

module _ (as_use : Slot → Use) (S : ℕ) (claim : Claim) where
  abbrev made : ℕ → List ℕ → List Use
  made k bytes = as_use (slot k claim (take S bytes)) ∷ []

  -- no replica before the first bit's
  none-low : (bits j mask k : ℕ) (bytes : List ℕ) → k < j → uses as_use k (certified S claim (replicas_from bits j mask) bytes) ≡ []
  unfolding uses certified slot replicas_from
  none-low zero j mask k bytes h = refl
  none-low (suc bits) j mask k bytes h =
      ⊎_elim
      (λ (e : eqb (mask % 2) 1 ≡ true). rw (e, ne_eqb j k (λ d. omega (arith, d))) (none-low bits (suc j) (mask / 2) k (drop S bytes) (omega arith)))
      (λ (e : eqb (mask % 2) 1 ≡ false). rw e (none-low bits (suc j) (mask / 2) k bytes (omega arith)))
      (look (eqb (mask % 2) 1))

  -- replica j + i, where the first bit is replica j's
  used-from : (bits j mask i : ℕ) (bytes : List ℕ) → i < bits
      → uses as_use (j + i) (certified S claim (replicas_from bits j mask) bytes)
      ≡ cond (eqb (mask / 2 ^ i % 2) 1) (made (j + i) (drop (S * ones_below i mask) bytes)) []
  unfolding uses certified slot replicas_from ones_below
  used-from zero j mask i bytes h = absurd (omega arith)
  used-from (suc bits) j mask zero bytes h =
      let here : j + 0 ≡ j = omega arith in
      let none : S * 0 ≡ 0 = omega arith in
      ⊎_elim
      (λ (e : eqb (mask % 2) 1 ≡ true).
      rw (div-one, e, here, eq-eqb j j refl, none)
      (ap (λ z. as_use (slot j claim (take S bytes)) ∷ z) (none-low bits (suc j) (mask / 2) (j + 0) (drop S bytes) (omega arith))))
      (λ (e : eqb (mask % 2) 1 ≡ false). rw (div-one, e, here) (none-low bits (suc j) (mask / 2) j bytes (omega arith)))
      (look (eqb (mask % 2) 1))
  used-from (suc bits) j mask (suc i) bytes h =
      let later : suc j + i ≡ j + suc i = omega arith in
      let rest : (b : List ℕ) → uses as_use (j + suc i) (certified S claim (replicas_from bits (suc j) (mask / 2)) b)
      ≡ cond (eqb (mask / 2 ^ suc i % 2) 1) (made (j + suc i) (drop (S * ones_below i (mask / 2)) b)) [] =
      λ b. rw (← later, shift mask i) (used-from bits (suc j) (mask / 2) i b (omega arith)) in
      ⊎_elim
      (λ (e : eqb (mask % 2) 1 ≡ true).
      let one : mask % 2 ≡ 1 = eqb-true (mask % 2) 1 e in
      let place : S * (1 + ones_below i (mask / 2)) ≡ S + S * ones_below i (mask / 2) = rw (mul-add S 1 (ones_below i (mask / 2)), mul-one) in
      rw (e, ne_eqb j (j + suc i) (λ d. omega (arith, d)), one, place, ← drop-drop (S * ones_below i (mask / 2)) S bytes) (rest (drop S bytes)))
      (λ (e : eqb (mask % 2) 1 ≡ false).
      let none : mask % 2 ≡ 0 = omega (arith, eqb-false (mask % 2) 1 e) in
      let place : 0 + ones_below i (mask / 2) ≡ ones_below i (mask / 2) = omega arith in
      rw (e, none, place) (rest bytes))
      (look (eqb (mask % 2) 1))

  pub uses-certified : (k mask : ℕ) (bytes : List ℕ) → 0 < k → k ≤ 16
      → uses as_use k (certified S claim (replicas_of mask) bytes)
      ≡ cond (signer mask k) (made k (drop (S * ones_below (k - 1) mask) bytes)) []
  unfolding signer replicas_of
  uses-certified k mask bytes p h =
      let place : 1 + (k - 1) ≡ k = omega arith in rw place at (used-from 16 1 mask (k - 1) bytes (omega arith))

-- it lies before the last one's end
place_inside : (mask k S from : ℕ) → signer mask k ≡ true → signature_place mask k S from + S ≤ from + S * ones mask
unfolding signer signature_place
place_inside mask k S from e =
    let few : ones_below (k - 1) mask + 1 ≤ ones mask = one_more (k - 1) mask (eqb-true _ 1 e) in
    let most : S * (ones_below (k - 1) mask + 1) ≤ S * ones mask = mul-le-mul_left S few in
    let both : S * (ones_below (k - 1) mask + 1) ≡ S * ones_below (k - 1) mask + S = rw (mul-add S (ones_below (k - 1) mask) 1, mul-one) in
    omega (arith, most, both)

-- so its leaf lies inside what ends with the last one
pub leaf-inside : (mask k S from end : ℕ) → signer mask k ≡ true → leaf_size ≤ S → from + S * ones mask ≤ end → signature_place mask k S from + leaf_size ≤ end
leaf-inside mask k S from end e wide h = omega (arith, place_inside mask k S from e)
