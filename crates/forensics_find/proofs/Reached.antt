-- The first difference of two logs, as the rules take it, against two indexes.
-- Assumes nothing.
use mathlib.Core.Path.{◌≡◌, refl}
use mathlib.Core.Bool.{Bool, true, false, cond}
use mathlib.Core.List.{[], ◌∷◌}
use Prim.Native.Nat.{ℕ, zero, suc, ◌≤◌, ◌<◌}
use native.Mathlib.Omega.{arith}
use borrow.Author.Tests.{lt-ltb, le-leb, lt-leb}
use lib.Dec.{leb, ltb}
use Rattle.std.specs.Prelude.{Option, None, Some, unwrap_or, IfSome}
use Rattle.refusal.specs.Checks.{all}
use Rattle.forensics_charges.specs.declared.Receipt.{Receipt}
use Rattle.forensics_charges.specs.Rules.{reached}
use Rattle.forensics_charges.specs.Charges.{difference_of, committed_index, fork_of}

pub reached_both : (d i j : ℕ) → reached (difference_of d) i j ≡ all (ltb 0 d ∷ leb d i ∷ leb d j ∷ [])
unfolding reached difference_of all
reached_both zero i j = refl
reached_both (suc d) i j = rw (lt-ltb 0 (suc d) (omega arith))

index_again : (d : ℕ) → unwrap_or (difference_of d) 0 ≡ d
unfolding difference_of
index_again zero = refl
index_again (suc d) = refl

pub index_kept : (d : Option ℕ) → IfSome d (λ index. 0 < index) → d ≡ difference_of (unwrap_or d 0)
unfolding difference_of
index_kept None above = refl
index_kept (Some zero) above = absurd (omega arith)
index_kept (Some (suc i)) above = refl

-- ---- an index against two others

second_fails : (b : Bool) → all (b ∷ false ∷ []) ≡ false
unfolding all
second_fails true = refl
second_fails false = refl

module _ (i a b : ℕ) where
  pub first_before : a < i → 0 ≡ cond (all (leb i a ∷ leb i b ∷ [])) i 0
  unfolding all
  first_before h = rw (lt-leb i a h)

  pub second_before : b < i → 0 ≡ cond (all (leb i a ∷ leb i b ∷ [])) i 0
  second_before h = rw (lt-leb i b h, second_fails (leb i a))

  pub in_both : i ≤ a → i ≤ b → i ≡ cond (all (leb i a ∷ leb i b ∷ [])) i 0
  unfolding all
  in_both p q = rw (le-leb i a p, le-leb i b q)

either_zero : (b : Bool) → ◌≡◌ {A = ℕ} 0 (cond b 0 0)
either_zero true = refl
either_zero false = refl

pub none_before : (i b : ℕ) → 0 ≡ cond (all (leb i 0 ∷ leb i b ∷ [])) i 0
none_before zero b = either_zero _
none_before (suc i) b = first_before (suc i) 0 b (omega arith)

pub none_after : (i a : ℕ) → 0 ≡ cond (all (leb i a ∷ leb i 0 ∷ [])) i 0
none_after zero a = either_zero _
none_after (suc i) a = second_before (suc i) a 0 (omega arith)

-- ---- the fork

-- it is the difference where both have committed it
pub fork_both : (d : ℕ) (x y : Option Receipt)
    → fork_of (difference_of d) x y ≡ cond (all (ltb 0 d ∷ leb d (committed_index x) ∷ leb d (committed_index y) ∷ [])) d 0
unfolding fork_of
fork_both d x y = rw (reached_both d (committed_index x) (committed_index y), index_again d)
