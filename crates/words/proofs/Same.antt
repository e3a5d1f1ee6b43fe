-- The laws of `same`: it is true of equal lists and of no others, so that any test that decides equality has its value.
-- Assumes nothing.
use mathlib.Core.Path.{◌≡◌, refl, sym}
use mathlib.Core.Bool.{Bool, true, false, cond, ◌&&◌}
use mathlib.Core.List.{List, [], ◌∷◌, ◌++◌}
use Prim.Native.Nat.{ℕ}
use native.Mathlib.Omega.{arith}
use borrow.Author.Tests.{eqb-true, eq-eqb}
use lib.Dec.{eqb}
use lib.Pointwise.{pointwise}
use Rattle.words.specs.BigEndian.{same}

-- ---- truth values

never : {P : Type 0} → false ≡ true → P
never e = let z : ◌≡◌ {A = ℕ} 0 1 = cc in absurd (omega arith)

both_true : (a b : Bool) → cond a b false ≡ true → (a ≡ true) × (b ≡ true)
both_true true b e = (refl, e)
both_true false b e = never e

both_ways : (a b : Bool) → (a ≡ true → b ≡ true) → (b ≡ true → a ≡ true) → a ≡ b
both_ways true b f g = sym (f refl)
both_ways false true f g = g refl
both_ways false false f g = refl

-- ---- equal lists

pub same_true : (xs ys : List ℕ) → same xs ys ≡ true → xs ≡ ys
unfolding same
same_true [] [] e = refl
same_true [] (y ∷ ys) e = never e
same_true (x ∷ xs) [] e = never e
same_true (x ∷ xs) (y ∷ ys) e =
    let b = both_true (eqb x y) (same xs ys) e in
    rw (eqb-true x y b.0, same_true xs ys b.1)

pub true_same : (xs : List ℕ) → same xs xs ≡ true
unfolding same
true_same [] = refl
true_same (x ∷ xs) = rw (eq-eqb x x refl) (true_same xs)

-- what the library's `==` compares, pair by pair
pub pointwise_same : (xs ys : List ℕ) → pointwise eqb xs ys ≡ same xs ys
unfolding same
pointwise_same [] [] = refl
pointwise_same [] (y ∷ ys) = refl
pointwise_same (x ∷ xs) [] = refl
pointwise_same (x ∷ xs) (y ∷ ys) = go (eqb x y) (pointwise_same xs ys)
  where
    go : (b : Bool) → pointwise eqb xs ys ≡ same xs ys → (b && pointwise eqb xs ys) ≡ cond b (same xs ys) false
    go true e = e
    go false e = refl

-- a beginning that both have
pub same_after : (xs ys zs : List ℕ) → same (xs ++ ys) (xs ++ zs) ≡ same ys zs
unfolding same
same_after [] ys zs = refl
same_after (x ∷ xs) ys zs = rw (eq-eqb x x refl) (same_after xs ys zs)

-- a test that is true of equal lists and of no others
pub same_test : (r : Bool) (xs ys : List ℕ) → (r ≡ true → xs ≡ ys) × (xs ≡ ys → r ≡ true) → r ≡ same xs ys
same_test r xs ys p =
    both_ways r (same xs ys) (λ (e : r ≡ true). rw (p.0 e) (true_same ys)) (λ (e : same xs ys ≡ true). p.1 (same_true xs ys e))

pub same_false : (xs ys : List ℕ) → (xs ≡ ys → ⊥) → same xs ys ≡ false
same_false xs ys h = sym (same_test false xs ys ((λ e. never e), (λ e. absurd (h e))))
