-- The union of what pairs name: it has whomever any of them names and nobody else, is above 0 where any of them names somebody, and fits nine bits.
-- Assumes nothing.
use mathlib.Core.Path.{◌≡◌, refl, sym, ap, ◌∙◌}
use mathlib.Core.Bool.{true, false}
use mathlib.Core.List.Memᴰ
use mathlib.Core.List.{List, [], ◌∷◌, Memᴰ}
use mathlib.Core.Logic.{⊎_elim}
use Prim.Native.Nat.{ℕ, ◌^◌, ◌<◌}
use native.Mathlib.Omega.{arith}
use lib.Bits.{or_lt}
use lib.Dec.{lit<}
use Rattle.roster.specs.Masks.{signer}
use Rattle.roster.proofs.Masks.{signer-none, or-le, or_clear, or_left, or_right}
use Rattle.forensics.specs.Findings.{findings, found_in, rows_from, row_count, mask_of}
use Rattle.forensics.proofs.Rows.{mask_small}
use Rattle.district.specs.District.{Pair, found, union}

module _ (roster : List ℕ) where
  -- whom a pair names
  unfoldable pub mask : Pair → ℕ
  mask p = mask_of (found roster p).rows

  mask_lt : (p : Pair) → mask p < 2 ^ row_count
  unfolding mask found found_in findings rows_from
  mask_lt p = mask_small (found roster p).rows

  pub union-has : (ps : List Pair) (p : Pair) → Memᴰ p ps → 0 < mask p → 0 < union roster ps
  unfolding union mask
  union-has [] p m h = absurd (Memᴰ.not-nil m)
  union-has (q ∷ ps) p m h =
      let both = or-le (mask q) (union roster ps) in
      ⊎_elim (λ (e : p ≡ q). omega (arith, both.0, ap mask e, h)) (λ t. omega (arith, both.1, union-has ps p t h)) (Memᴰ.cases_cons m)

  -- whomever a pair names is in it
  pub union-named : (k : ℕ) (ps : List Pair) (p : Pair) → Memᴰ p ps → signer (mask p) k ≡ true → signer (union roster ps) k ≡ true
  unfolding union mask
  union-named k [] p m h = absurd (Memᴰ.not-nil m)
  union-named k (q ∷ ps) p m h =
      ⊎_elim
      (λ (e : p ≡ q). or_left (mask q) (union roster ps) k (ap (λ z. signer (mask z) k) (sym e) ∙ h))
      (λ t. or_right (mask q) (union roster ps) k (union-named k ps p t h))
      (Memᴰ.cases_cons m)

  -- and nobody else
  pub union-clear : (k : ℕ) (ps : List Pair) → ((p : Pair) → Memᴰ p ps → signer (mask p) k ≡ false)
      → signer (union roster ps) k ≡ false
  unfolding union mask
  union-clear k [] h = signer-none k
  union-clear k (q ∷ ps) h =
      or_clear (mask q) (union roster ps) k (h q (Memᴰ.head refl)) (union-clear k ps (λ p m. h p (Memᴰ.tail m)))

  pub union-lt : (ps : List Pair) → union roster ps < 2 ^ row_count
  unfolding union mask
  union-lt [] = lit< tt
  union-lt (p ∷ ps) = or_lt row_count (mask p) (union roster ps) (mask_lt p) (union-lt ps)
