-- Leader certificates one after the other: a certificate begins before it ends, and those that are left are the first of them and the ones after it.
-- Assumes nothing.
use mathlib.Core.Path.{◌≡◌, ap}
use mathlib.Core.List.{List, ◌∷◌}
use Prim.Native.Nat.{ℕ, zero, suc, ◌+◌, ◌-◌, ◌≤◌, ◌<◌}
use native.Mathlib.Nat.{le_refl, le_trans}
use native.Mathlib.Omega.{arith}
use Rattle.submission.specs.Reading.{ballot_size, certificate_at, certificate_end, certificates, certificates_end}

module _ (w S : ℕ) (s : List ℕ) where
  -- ---- where they end

  -- after the fields of a vote and the signers
  pub certificate-head : (at : ℕ) → at + ballot_size w + 2 ≤ certificate_end w S s at
  unfolding certificate_end
  certificate-head at = omega arith

  pub certificates-from : (count at : ℕ) → at ≤ certificates_end w S s count at
  unfolding certificates_end
  certificates-from zero at = le_refl at
  certificates-from (suc count) at = omega (arith, certificate-head at, certificates-from count (certificate_end w S s at))

  -- ---- the first of those that are left

  module _ (left at : ℕ) (more : 0 < left) where
    one_more : left ≡ suc (left - 1)
    one_more = omega arith

    pub certificates-first : certificates w S s left at ≡ certificate_at w s at ∷ certificates w S s (left - 1) (certificate_end w S s at)
    unfolding certificates
    certificates-first = ap (λ (k : ℕ). certificates w S s k at) one_more

    pub end-first : certificates_end w S s left at ≡ certificates_end w S s (left - 1) (certificate_end w S s at)
    unfolding certificates_end
    end-first = ap (λ (k : ℕ). certificates_end w S s k at) one_more

    pub rest-inside : {most : ℕ} → certificates_end w S s left at ≤ most → certificates_end w S s (left - 1) (certificate_end w S s at) ≤ most
    rest-inside h = rw end-first at h

    pub first-inside : {most : ℕ} → certificates_end w S s left at ≤ most → certificate_end w S s at ≤ most
    first-inside h = le_trans (certificates-from (left - 1) (certificate_end w S s at)) (rest-inside h)
