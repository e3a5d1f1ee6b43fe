-- The test of two uses: a leaf is not used twice exactly where one leaf means one message.
-- Assumes nothing.
use mathlib.Core.Path.{◌≡◌, refl, subst}
use mathlib.Core.Bool.{true, false, not, cond}
use mathlib.Core.List.{[], ◌∷◌}
use mathlib.Core.Logic.{◌⊎◌, inl, inr}
use borrow.Author.Tests.{not-false}
use Rattle.words.specs.BigEndian.{same}
use Rattle.words.proofs.Same.{same_true, true_same}
use Rattle.refusal.proofs.Laws.{look}
use Rattle.lm_format.specs.Leaf.{same_leaf}
use Rattle.lm_format.specs.Uses.{Use, use_of, reused}
use Rattle.lm_format.proofs.Leaf.{same-leaf, leaf-same}

module _ (x y : Use) where
  pub one-message : reused x y ≡ false → x.leaf ≡ y.leaf → x.message ≡ y.message
  unfolding reused
  one-message e d =
      let differ = not (same x.message y.message) in
      same_true _ _ (not-false _ (subst (λ b. cond b differ false ≡ false) (leaf-same x.leaf y.leaf d) e))

  pub not-reused : (x.leaf ≡ y.leaf → x.message ≡ y.message) → reused x y ≡ false
  unfolding reused
  not-reused h = go (look (same_leaf x.leaf y.leaf))
    where
      go : (same_leaf x.leaf y.leaf ≡ true) ⊎ (same_leaf x.leaf y.leaf ≡ false)
          → cond (same_leaf x.leaf y.leaf) (not (same x.message y.message)) false ≡ false
      go (inl e) = rw (e, h (same-leaf _ _ e), true_same y.message)
      go (inr e) = rw e

-- ---- examples

-- uses of one leaf for two messages, one of which may be a beginning of the other; not for one message, and not two leaves
told_apart : (reused (use_of 3 (1 ∷ 2 ∷ [])) (use_of 3 (1 ∷ 3 ∷ [])) ≡ true) × (reused (use_of 3 (1 ∷ [])) (use_of 3 (1 ∷ 0 ∷ [])) ≡ true)
    × (reused (use_of 0 []) (use_of 0 (0 ∷ [])) ≡ true) × (reused (use_of 3 (1 ∷ 2 ∷ [])) (use_of 3 (1 ∷ 2 ∷ [])) ≡ false)
    × (reused (use_of 3 (1 ∷ 2 ∷ [])) (use_of 4 (1 ∷ 3 ∷ [])) ≡ false) × (reused (use_of 3 (1 ∷ 2 ∷ [])) (use_of 4 (1 ∷ 2 ∷ [])) ≡ false)
unfolding reused use_of same_leaf same
told_apart = (refl, refl, refl, refl, refl, refl)
