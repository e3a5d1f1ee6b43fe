-- Beginnings of two logs differ exactly where the whole logs do, as far as both reach: by induction over the records, with the index of the
-- first. So one pass over two logs serves the fork and all of rule 2.
-- Assumes nothing.
use mathlib.Core.Path.{◌≡◌, refl, sym, ap, ◌∙◌}
use mathlib.Core.Bool.{Bool, true, false, not, cond}
use mathlib.Core.List.{List, [], ◌∷◌}
use mathlib.Core.Logic.{⊎_elim}
use Prim.Native.Nat.{ℕ, zero, suc, ◌+◌, ◌≤◌, ◌<◌}
use native.Mathlib.Omega.{arith}
use borrow.Author.Tests.{ne_eqb, ltb-true, lt-ltb, le-leb, lt-leb}
use lib.Dec.{eqb, leb, ltb}
use lib.ListN.{take}
use Rattle.refusal.specs.Checks.{all}
use Rattle.refusal.proofs.Laws.{look, all_cons}
use Rattle.log_chain.specs.Log.{Record}
use Rattle.log_chain.specs.Difference.{agree, same_record}
use Rattle.log_chain.specs.Difference.{differ_at}

-- ---- a difference within two lengths

-- an index, 0 for none, that is not above either
unfoldable pub in_both_lem : ℕ → ℕ → ℕ → Bool
in_both_lem d a b = all (ltb 0 d ∷ leb d a ∷ leb d b ∷ [])

pub in_both : (d a b : ℕ) → 0 < d → d ≤ a → d ≤ b → in_both_lem d a b ≡ true
unfolding in_both_lem all
in_both d a b p q r = rw (lt-ltb 0 d p, le-leb d a q, le-leb d b r)

-- a test that fails, whatever those before it are
second_fails : (x y z : Bool) → (x ≡ true → y ≡ false) → all (x ∷ y ∷ z ∷ []) ≡ false
unfolding all
second_fails true y z h = rw (h refl)
second_fails false y z h = refl

third_fails : (x y z : Bool) → (x ≡ true → z ≡ false) → all (x ∷ y ∷ z ∷ []) ≡ false
unfolding all
third_fails true true z h = rw (h refl)
third_fails true false z h = refl
third_fails false y z h = refl

pub above-first : (d a b : ℕ) → (0 < d → a < d) → in_both_lem d a b ≡ false
unfolding in_both_lem
above-first d a b h = second_fails (ltb 0 d) (leb d a) (leb d b) (λ p. lt-leb d a (h (ltb-true 0 d p)))

pub above-second : (d a b : ℕ) → (0 < d → b < d) → in_both_lem d a b ≡ false
unfolding in_both_lem
above-second d a b h = third_fails (ltb 0 d) (leb d a) (leb d b) (λ p. lt-leb d b (h (ltb-true 0 d p)))

pub none_in : (a b : ℕ) → in_both_lem 0 a b ≡ false
none_in a b = above-first 0 a b (λ h. absurd (omega arith))

-- ---- the first difference

pub differ-nil : (i : ℕ) (l : List Record) → differ_at i l [] ≡ 0
unfolding differ_at
differ-nil i [] = refl
differ-nil i (r ∷ l) = refl

pub differ_next : (i : ℕ) (r s : Record) (l m : List Record) → same_record r s ≡ true → differ_at i (r ∷ l) (s ∷ m) ≡ differ_at (suc i) l m
unfolding differ_at
differ_next i r s l m e = rw e

pub differ_here : (i : ℕ) (r s : Record) (l m : List Record) → same_record r s ≡ false → differ_at i (r ∷ l) (s ∷ m) ≡ i
unfolding differ_at
differ_here i r s l m e = rw e

-- it is not before the first record
differ_low : (j : ℕ) (l m : List Record) → 0 < differ_at (suc j) l m → j < differ_at (suc j) l m
unfolding differ_at
differ_low j [] m h = absurd (omega arith)
differ_low j (r ∷ l) [] h = absurd (omega arith)
differ_low j (r ∷ l) (s ∷ m) h =
    ⊎_elim
    (λ (e : same_record r s ≡ true). rw e (omega (arith, differ_low (suc j) l m (rw e at h))))
    (λ (e : same_record r s ≡ false). rw e (omega arith))
    (look (same_record r s))

-- two logs agree where there is none
pub agree-none : (j : ℕ) (l m : List Record) → agree l m ≡ eqb (differ_at (suc j) l m) 0
unfolding agree differ_at
agree-none j [] m = refl
agree-none j (r ∷ l) [] = refl
agree-none j (r ∷ l) (s ∷ m) =
    ⊎_elim
    (λ (e : same_record r s ≡ true). rw e (agree-none (suc j) l m))
    (λ (e : same_record r s ≡ false). rw e (sym (ne_eqb (suc j) 0 (λ h. absurd (omega arith)))))
    (look (same_record r s))

-- ---- of beginnings

-- from the record after the first j on
abbrev Begins : ℕ → ℕ → ℕ → List Record → List Record → Type 0
Begins j a b l m =
    let d = differ_at (suc j) l m in
    differ_at (suc j) (take a l) (take b m) ≡ cond (in_both_lem d (j + a) (j + b)) d 0

differ_shorter : (j a b : ℕ) (l m : List Record) → differ_at (suc j) (take a l) (take b m) ≡ 0
    → in_both_lem (differ_at (suc j) l m) (j + a) (j + b) ≡ false → Begins j a b l m
differ_shorter j a b l m e h = rw h e

differ_from_lem : (j a b : ℕ) (l m : List Record) → Begins j a b l m
unfolding differ_at
differ_from_lem j zero b l m = differ_shorter j 0 b l m refl (above-first _ (j + 0) (j + b) (λ h. omega (arith, differ_low j l m h)))
differ_from_lem j (suc a) zero l m =
    differ_shorter j (suc a) 0 l m (differ-nil (suc j) (take (suc a) l)) (above-second _ (j + suc a) (j + 0) (λ h. omega (arith, differ_low j l m h)))
differ_from_lem j (suc a) (suc b) [] m = rw (none_in (j + suc a) (j + suc b))
differ_from_lem j (suc a) (suc b) (r ∷ l) [] = rw (none_in (j + suc a) (j + suc b))
differ_from_lem j (suc a) (suc b) (r ∷ l) (s ∷ m) =
    let left : suc j + a ≡ j + suc a = omega arith in
    let right : suc j + b ≡ j + suc b = omega arith in
    ⊎_elim
    (λ (e : same_record r s ≡ true). rw e (rw (left, right) at (differ_from_lem (suc j) a b l m)))
    (λ (e : same_record r s ≡ false). rw (e, in_both (suc j) (j + suc a) (j + suc b) (omega arith) (omega arith) (omega arith)))
    (look (same_record r s))

found : (b : Bool) (d : ℕ) → (b ≡ true → 0 < d) → not (eqb (cond b d 0) 0) ≡ b
found true d h = ap not (ne_eqb d 0 (λ e. omega (arith, h refl, e)))
found false d h = refl

module _ (a b : ℕ) (l m : List Record) where
  -- where the beginnings differ first
  pub differ-take : let d = differ_at 1 l m in differ_at 1 (take a l) (take b m) ≡ cond (all (ltb 0 d ∷ leb d a ∷ leb d b ∷ [])) d 0
  unfolding in_both_lem
  differ-take =
      let left : 0 + a ≡ a = omega arith in
      let right : 0 + b ≡ b = omega arith in
      rw (left, right) at (differ_from_lem 0 a b l m)

  -- whether they do
  pub agree-take : let d = differ_at 1 l m in not (agree (take a l) (take b m)) ≡ all (ltb 0 d ∷ leb d a ∷ leb d b ∷ [])
  unfolding in_both_lem
  agree-take =
      let d = differ_at 1 l m in
      ap not (agree-none 0 (take a l) (take b m) ∙ ap (λ x. eqb x 0) differ-take)
      ∙ found (in_both_lem d a b) d (λ e. ltb-true 0 d (all_cons (ltb 0 d) (leb d a ∷ leb d b ∷ []) e).0)
