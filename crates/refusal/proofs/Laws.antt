-- What tests taken together say of each, and what it means that no check is refused.
-- Assumes nothing.
use mathlib.Core.Path.{◌≡◌, refl, sym, ◌∙◌}
use mathlib.Core.Bool.{Bool, true, false, not, cond, false≢true}
use mathlib.Core.List.Memᴰ
use mathlib.Core.List.{List, [], ◌∷◌, ◌++◌, Memᴰ}
use mathlib.Core.Logic.{◌⊎◌, inl, inr, ⊎_elim}
use Prim.Native.Nat.{ℕ, ◌<◌}
use native.Mathlib.Omega.{arith}
use borrow.Author.Tests.{eq-eqb, ne_eqb, eqb-true, eqb-false, not-true, not-false}
use lib.Dec.{eqb}
use Rattle.refusal.specs.Checks.{all, every, Check, check, refusal, first}

-- ---- one test

pub look : (b : Bool) → (b ≡ true) ⊎ (b ≡ false)
look true = inl refl
look false = inr refl

pub cond-true : (b c : Bool) → cond b c false ≡ true → (b ≡ true) × (c ≡ true)
cond-true true c e = (refl, e)
cond-true false c e = absurd (false≢true e)

-- ---- all of them

pub all_cons : (b : Bool) (bs : List Bool) → all (b ∷ bs) ≡ true → (b ≡ true) × (all bs ≡ true)
unfolding all
all_cons b bs e = cond-true b (all bs) e

pub every-mem : {A : Type 0} (test : A → Bool) (xs : List A) → every test xs ≡ true → (x : A) → Memᴰ x xs → test x ≡ true
unfolding every
every-mem test [] e x m = absurd (Memᴰ.not-nil m)
every-mem test (y ∷ ys) e x m =
    let p = cond-true (test y) (every test ys) e in
    ⊎_elim (λ h. rw h p.0) (λ h. every-mem test ys p.1 x h) (Memᴰ.cases_cons m)

-- a test of two lists joined
pub every_append : {A : Type 0} (test : A → Bool) (xs ys : List A) → every test (xs ++ ys) ≡ cond (every test xs) (every test ys) false
unfolding every
every_append test [] ys = refl
every_append test (x ∷ xs) ys = go (test x) (every_append test xs ys)
  where
    go : (b : Bool) → every test (xs ++ ys) ≡ cond (every test xs) (every test ys) false
        → cond b (every test (xs ++ ys)) false ≡ cond (cond b (every test xs) false) (every test ys) false
    go true e = e
    go false e = refl

-- ---- one after the other: the first that fails, or the last, gives the answer

module _ (b : Bool) (bs : List Bool) where
  pub first_fails : b ≡ false → false ≡ all (b ∷ bs)
  unfolding all
  first_fails e = rw e

  pub first_holds : {r : Bool} → b ≡ true → r ≡ all bs → r ≡ all (b ∷ bs)
  unfolding all
  first_holds e h = rw e h

pub all_one : (b : Bool) → b ≡ all (b ∷ [])
unfolding all
all_one true = refl
all_one false = refl

-- ---- a test that the code has asked

module _ {r b : Bool} (e : r ≡ b) where
  pub met : not r ≡ false → b ≡ true
  met h = sym e ∙ not-false r h

  pub unmet : not r ≡ true → b ≡ false
  unmet h = sym e ∙ not-true r h

-- ---- no check refused

pub accepted : (k : ℕ) (met : Bool) (cs : List Check) → 0 < k → refusal (check k met ∷ cs) ≡ 0 → (met ≡ true) × (refusal cs ≡ 0)
unfolding refusal check
accepted k true cs h e = (refl, e)
accepted k false cs h e = absurd (omega (arith, h, e))

-- ---- one check after the other

pub no_check : refusal [] ≡ 0
unfolding refusal
no_check = refl

pub passed : (k : ℕ) (met : Bool) (cs : List Check) → met ≡ true → refusal (check k met ∷ cs) ≡ refusal cs
unfolding refusal check
passed k met cs e = rw e

pub refused : (k : ℕ) (met : Bool) (cs : List Check) → met ≡ false → refusal (check k met ∷ cs) ≡ k
unfolding refusal check
refused k met cs e = rw e

-- ---- numbers in order

pub first-refused : {r a : ℕ} (b : ℕ) → r ≡ a → (r ≡ 0 → ⊥) → r ≡ first a b
unfolding first
first-refused {r} {a} b e h = e ∙ rw (ne_eqb a 0 (λ z. h (e ∙ z)))

pub first-accepted : {r a b : ℕ} → a ≡ 0 → r ≡ b → r ≡ first a b
unfolding first
first-accepted e h = rw (eq-eqb _ 0 e) h

-- 0 only where both are
pub first-zero : (a b : ℕ) → first a b ≡ 0 → (a ≡ 0) × (b ≡ 0)
unfolding first
first-zero a b e =
    ⊎_elim (λ (h : eqb a 0 ≡ true). (eqb-true a 0 h, rw h at e)) (λ (h : eqb a 0 ≡ false). absurd (eqb-false a 0 h (rw h at e))) (look (eqb a 0))
