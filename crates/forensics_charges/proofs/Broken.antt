-- The rules, test by test in the code's order: the first test that fails, or the last, gives the answer.
-- Assumes nothing.
use mathlib.Core.Path.{◌≡◌, refl, sym, ◌∙◌}
use mathlib.Core.Bool.{Bool, true, false, cond, ◌&&◌}
use mathlib.Core.List.{List, [], ◌∷◌, ◌++◌}
use Prim.Native.Nat.{ℕ}
use lib.Dec.{eqb}
use lib.Pointwise.{pointwise}
use Rattle.words.specs.BigEndian.{same}
use Rattle.refusal.specs.Checks.{all}
use Rattle.refusal.proofs.Laws.{all_one}

-- ---- the first tests taken together, and the others after them

all_append : (bs cs : List Bool) → all (bs ++ cs) ≡ cond (all bs) (all cs) false
unfolding all
all_append [] cs = refl
all_append (b ∷ bs) cs = go b (all_append bs cs)
  where
    go : (b : Bool) → all (bs ++ cs) ≡ cond (all bs) (all cs) false
        → cond b (all (bs ++ cs)) false ≡ cond (cond b (all bs) false) (all cs) false
    go true e = e
    go false e = refl

module _ (bs cs : List Bool) where
  pub part-fails : {r : Bool} → r ≡ false → all bs ≡ false → r ≡ all (bs ++ cs)
  part-fails h e = h ∙ sym (rw e at (all_append bs cs))

  pub part-holds : {r : Bool} → all bs ≡ true → r ≡ all cs → r ≡ all (bs ++ cs)
  part-holds e h = h ∙ sym (rw e at (all_append bs cs))

-- ---- requests compared field by field

pointwise_same : (xs ys : List ℕ) → pointwise eqb xs ys ≡ same xs ys
unfolding same
pointwise_same [] [] = refl
pointwise_same [] (y ∷ ys) = refl
pointwise_same (x ∷ xs) [] = refl
pointwise_same (x ∷ xs) (y ∷ ys) = go (eqb x y) (pointwise_same xs ys)
  where
    go : (b : Bool) → pointwise eqb xs ys ≡ same xs ys → (b && pointwise eqb xs ys) ≡ cond b (same xs ys) false
    go true e = e
    go false e = refl

pub fields_same : (a b c : Bool) (xs ys : List ℕ) → (a && (b && (c && pointwise eqb xs ys))) ≡ all (a ∷ b ∷ c ∷ same xs ys ∷ [])
unfolding all
fields_same true true true xs ys = pointwise_same xs ys ∙ all_one (same xs ys)
fields_same true true false xs ys = refl
fields_same true false c xs ys = refl
fields_same false b c xs ys = refl
