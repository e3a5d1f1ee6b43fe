-- The mask of the rows: bit k - 1 is a one exactly where replica k has a charge, and there is none above the rows.
-- Assumes nothing.
use mathlib.Core.Path.{◌≡◌, ap, ◌∙◌}
use mathlib.Core.Bool.{true, false}
use mathlib.Core.List.{List, [], ◌∷◌, Memᴰ}
use mathlib.Core.Option.{Option, some, none}
use Prim.Native.Nat.{ℕ, zero, suc, ◌+◌, ◌-◌, ◌*◌, ◌/◌, ◌%◌, ◌^◌, ◌≤◌, ◌<◌}
use native.Mathlib.Nat.{div-one, pow-suc}
use native.Mathlib.Omega.{arith}
use borrow.Author.Tests.{eq-eqb}
use lib.ListN.{length}
use Rattle.lm_format.specs.Uses.{Use}
use Rattle.roster.specs.Masks.{signer}
use Rattle.roster.proofs.Quorums.{shift}
use Rattle.roster.proofs.Masks.{signer_positive}
use Rattle.replica.specs.Charges.{Charge}
use Rattle.submission.specs.View.{Slot}
use Rattle.forensics.specs.Findings.{all_charges, lowest, rows_from, bit, mask_of}
use Rattle.forensics.proofs.Order.{lowest-first}

-- ---- one row

-- a replica with a charge has a one
bit-one : (cs : List Charge) (c : Charge) → Memᴰ c cs → bit (lowest cs) ≡ 1
unfolding bit
bit-one cs c m = rw (lowest-first cs c m).1

bit-none : (cs : List Charge) → cs ≡ [] → bit (lowest cs) ≡ 0
unfolding bit lowest
bit-none cs e = rw e

bit_small : (row : Option Charge) → bit row < 2
unfolding bit
bit_small none = omega arith
bit_small (some c) = omega arith

-- ---- the mask

pub mask_small : (rows : List (Option Charge)) → mask_of rows < 2 ^ length rows
unfolding mask_of
mask_small [] = omega arith
mask_small (row ∷ rows) = rw pow-suc (omega (arith, bit_small row, mask_small rows))

mask_low : (row : Option Charge) (rest : ℕ) → (bit row + 2 * rest) % 2 ≡ bit row
mask_low row rest = omega (arith, bit_small row)

mask_half : (row : Option Charge) (rest : ℕ) → (bit row + 2 * rest) / 2 ≡ rest
mask_half row rest = omega (arith, bit_small row)

module _ (as_use : Slot → Use) (xs ys : List Slot) where
  -- the bit of replica k, j replicas after the first row's
  mask-bit : (count k j : ℕ) → j < count → mask_of (rows_from as_use count k xs ys) / 2 ^ j % 2 ≡ bit (lowest (all_charges as_use (k + j) xs ys))
  unfolding mask_of rows_from
  mask-bit zero k j h = absurd (omega arith)
  mask-bit (suc count) k zero h =
      let place : k + 0 ≡ k = omega arith in rw (div-one, place) (mask_low (lowest (all_charges as_use k xs ys)) (mask_of (rows_from as_use count (suc k) xs ys)))
  mask-bit (suc count) k (suc j) h =
      let m = bit (lowest (all_charges as_use k xs ys)) + 2 * mask_of (rows_from as_use count (suc k) xs ys) in
      let place : suc k + j ≡ k + suc j = omega arith in
      let half = mask_half (lowest (all_charges as_use k xs ys)) (mask_of (rows_from as_use count (suc k) xs ys)) in
      ap (λ x. x % 2) (shift m j) ∙ ap (λ x. x / 2 ^ j % 2) half ∙ mask-bit count (suc k) j (omega arith) ∙ ap (λ x. bit (lowest (all_charges as_use x xs ys))) place

  replica-bit : (count k : ℕ) → 0 < k → k ≤ count → mask_of (rows_from as_use count 1 xs ys) / 2 ^ (k - 1) % 2 ≡ bit (lowest (all_charges as_use k xs ys))
  replica-bit count k p h =
      let place : 1 + (k - 1) ≡ k = omega arith in
      mask-bit count 1 (k - 1) (omega arith) ∙ ap (λ x. bit (lowest (all_charges as_use x xs ys))) place

  -- a replica with a charge is in the mask
  pub mask-named : (count k : ℕ) → 0 < k → k ≤ count → (c : Charge) → Memᴰ c (all_charges as_use k xs ys) → signer (mask_of (rows_from as_use count 1 xs ys)) k ≡ true
  unfolding signer
  mask-named count k p h c m = eq-eqb _ 1 (replica-bit count k p h ∙ bit-one _ c m)

  -- a replica without is not
  pub mask-clear : (count k : ℕ) → 0 < k → k ≤ count → all_charges as_use k xs ys ≡ [] → signer (mask_of (rows_from as_use count 1 xs ys)) k ≡ false
  unfolding signer
  mask-clear count k p h e = rw (replica-bit count k p h ∙ bit-none (all_charges as_use k xs ys) e)

  -- some replica with a charge: the mask is not 0
  pub mask-positive : (count k : ℕ) → 0 < k → k ≤ count → (c : Charge) → Memᴰ c (all_charges as_use k xs ys) → 0 < mask_of (rows_from as_use count 1 xs ys)
  mask-positive count k p h c m = signer_positive _ k (mask-named count k p h c m)
