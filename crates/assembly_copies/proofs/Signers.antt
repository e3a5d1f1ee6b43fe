-- The signers of a row of places, from the last place down.
-- Assumes nothing.
use mathlib.Core.Path.{◌≡◌, refl, ◌∙◌}
use mathlib.Core.Bool.{Bool, true, false, not}
use mathlib.Core.List.{List}
use mathlib.Core.Logic.{⊎_elim}
use Prim.Native.Nat.{ℕ, suc, ◌+◌, ◌-◌, ◌*◌, ◌^◌, ◌≤◌, ◌<◌}
use native.Mathlib.Nat.{pow-succ', pow-le-pow_right, lt_of_lt_of_le}
use native.Mathlib.Omega.{arith}
use mir.Val.{bool_byte}
use lib.Dec.{eqb, lit<}
use lib.ListN.{length, get_or, drop}
use lib.Seq.{drop-cons}
use Rattle.refusal.proofs.Laws.{look}
use Rattle.submission_encoding.specs.Copies.{bit_of, signers_of}
use Rattle.assembly_copies.specs.Rows.{copy_at, copies_at}

-- ---- one place more

module _ (S : ℕ) (item_bytes : List ℕ) where
  -- what the code adds for a place
  bit-test : (place : ℕ) → bool_byte (not (eqb place 0)) ≡ bit_of (copy_at S item_bytes place)
  unfolding bit_of copy_at
  bit-test place =
      ⊎_elim (λ (e : eqb place 0 ≡ true). rw e) (λ (e : eqb place 0 ≡ false). rw e) (look (eqb place 0))

  signers-cons : (places : List ℕ) (k m : ℕ) → k < length places
      → signers_of (copies_at S item_bytes (suc m) (drop k places)) ≡ bit_of (copy_at S item_bytes (get_or places k 0)) + 2 * signers_of (copies_at S item_bytes m (drop (suc k) places))
  unfolding signers_of copies_at
  signers-cons places k m h = rw (drop-cons places k 0 h)

  pub signers-none : (places : List ℕ) (n : ℕ) → 0 ≡ signers_of (copies_at S item_bytes (n - n) (drop n places))
  unfolding signers_of copies_at
  signers-none places n = let none : n - n ≡ 0 = omega arith in rw none

  module _ (places : List ℕ) (n k : ℕ) (more : 0 < k) (inside : k ≤ n) (room : n ≤ length places) (mask : ℕ)
      (so_far : mask ≡ signers_of (copies_at S item_bytes (n - k) (drop k places))) where
    signers-step : signers_of (copies_at S item_bytes (n - (k - 1)) (drop (k - 1) places)) ≡ bit_of (copy_at S item_bytes (get_or places (k - 1) 0)) + 2 * mask
    signers-step =
        let one_more : n - (k - 1) ≡ suc (n - k) = omega arith in
        let before : suc (k - 1) ≡ k = omega arith in
        rw one_more (signers-cons places (k - 1) (n - k) (omega arith) ∙ rw (before, ← so_far) refl)

    pub signers-more : {bit : ℕ} → bit ≡ bool_byte (not (eqb (get_or places (k - 1) 0) 0))
        → 2 * mask + bit ≡ signers_of (copies_at S item_bytes (n - (k - 1)) (drop (k - 1) places))
    signers-more e = omega (arith, signers-step, bit-test (get_or places (k - 1) 0), e)

-- ---- its bits

pub bit_most : (b : Bool) → bool_byte b ≤ 1
bit_most true = omega arith
bit_most false = omega arith

module _ (n k : ℕ) (more : 0 < k) (inside : k ≤ n) (mask : ℕ) (below : mask < 2 ^ (n - k)) where
  pub bits-step : {bit : ℕ} (b : Bool) → bit ≡ bool_byte b → 2 * mask + bit < 2 ^ (n - (k - 1))
  bits-step b e =
      let one_more : n - (k - 1) ≡ suc (n - k) = omega arith in
      rw (one_more, pow-succ') (omega (arith, bit_most b, e))

  pub bits_fit : n ≤ 9 → mask < 512
  bits_fit h = let few : n - k ≤ 9 = omega arith in lt_of_lt_of_le below (pow-le-pow_right (lit< tt) few)
