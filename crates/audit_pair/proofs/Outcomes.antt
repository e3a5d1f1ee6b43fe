-- The outcome is the answer's: one number after the other.
-- Assumes nothing.
use mathlib.Core.Path.{◌≡◌, refl, sym, ap, ◌∙◌}
use mathlib.Core.Bool.{Bool, true, false, cond}
use mathlib.Core.List.{List}
use Prim.Native.Nat.{ℕ}
use mathlib.Core.Logic.{◌⊎◌, inl, inr}
use native.Mathlib.Omega.{arith}
use borrow.Author.Tests.{eqb-true, eq-eqb, ne_eqb}
use lib.Dec.{eqb}
use Rattle.std.specs.Prelude.{None, Some, Result, Ok, Err}
use Rattle.refusal.proofs.Laws.{look}
use Rattle.refusal.proofs.Refusals.{number-nonzero}
use Rattle.refusal.specs.Refusals.{number, number_of}
use Rattle.refusal.specs.declared.Refusal.{Refusal}
use Rattle.roster.specs.Roster.{roster_number}
use Rattle.submission.specs.Validate.{validate}
use Rattle.forensics.specs.Findings.{found_in}
use Rattle.report.specs.Report.{refused, answer}
use Rattle.audit_pair.specs.declared.Place.TheVariants.{Roster, First, Second}
use Rattle.audit_pair.specs.declared.Refused.{Refused}
use Rattle.audit_pair.specs.Outcomes.{outcome, answer_of, place}

refused-not-accepted : {r : ℕ × ℕ} → Some r ≡ None → ⊥
refused-not-accepted e = let z : ◌≡◌ {A = ℕ} 0 1 = cc in omega arith

-- what a check without a refusal says
pub accepted : {A : Type 0} {checked : Result A Refusal} {x : A} {n : ℕ} → number_of checked ≡ n → checked ≡ Ok x → n ≡ 0
accepted h e = let none = rw e at h in sym none

module _ (roster first second : List ℕ) where
  pub roster-refused : {A : Type 0} {checked : Result A Refusal} (e : Refused) → number_of checked ≡ roster_number roster
      → (checked ≡ Err e.refusal) × (e.place ≡ Roster) → Some (number e.refusal, place e.place) ≡ outcome roster first second
  unfolding outcome
  roster-refused e h told =
      let n = rw told.0 at h in
      rw (told.1, ne_eqb (roster_number roster) 0 (λ z. number-nonzero e.refusal (n ∙ z))) (ap (λ (m : ℕ). Some (m, 0)) n)

  module _ (fine : roster_number roster ≡ 0) where
    pub first-refused : {A : Type 0} {checked : Result A Refusal} (e : Refused) → number_of checked ≡ validate roster first
        → (checked ≡ Err e.refusal) × (e.place ≡ First) → Some (number e.refusal, place e.place) ≡ outcome roster first second
    unfolding outcome
    first-refused e h told =
        let n = rw told.0 at h in
        rw (told.1, eq-eqb _ 0 fine, ne_eqb (validate roster first) 0 (λ z. number-nonzero e.refusal (n ∙ z))) (ap (λ (m : ℕ). Some (m, 1)) n)

    module _ (one : validate roster first ≡ 0) where
      pub second-refused : {A : Type 0} {checked : Result A Refusal} (e : Refused) → number_of checked ≡ validate roster second
          → (checked ≡ Err e.refusal) × (e.place ≡ Second) → Some (number e.refusal, place e.place) ≡ outcome roster first second
      unfolding outcome
      second-refused e h told =
          let n = rw told.0 at h in
          rw (told.1, eq-eqb _ 0 fine, eq-eqb _ 0 one, ne_eqb (validate roster second) 0 (λ z. number-nonzero e.refusal (n ∙ z))) (ap (λ (m : ℕ). Some (m, 2)) n)

      pub both-accepted : validate roster second ≡ 0 → None ≡ outcome roster first second
      unfolding outcome
      both-accepted two = rw (eq-eqb _ 0 fine, eq-eqb _ 0 one, eq-eqb _ 0 two)

  -- what an accepted outcome says
  pub accepted-says : outcome roster first second ≡ None → (roster_number roster ≡ 0) × (validate roster first ≡ 0) × (validate roster second ≡ 0)
  unfolding outcome
  accepted-says e = go (look (eqb (roster_number roster) 0)) (look (eqb (validate roster first) 0)) (look (eqb (validate roster second) 0)) e
    where
      go : (eqb (roster_number roster) 0 ≡ true) ⊎ (eqb (roster_number roster) 0 ≡ false) → (eqb (validate roster first) 0 ≡ true) ⊎ (eqb (validate roster first) 0 ≡ false)
          → (eqb (validate roster second) 0 ≡ true) ⊎ (eqb (validate roster second) 0 ≡ false) → outcome roster first second ≡ None
          → (roster_number roster ≡ 0) × (validate roster first ≡ 0) × (validate roster second ≡ 0)
      go (inl x) (inl y) (inl z) h = (eqb-true _ _ x, eqb-true _ _ y, eqb-true _ _ z)
      go (inl x) (inl y) (inr z) h = absurd (refused-not-accepted (rw (x, y, z) at h))
      go (inl x) (inr y) z h = absurd (refused-not-accepted (rw (x, y) at h))
      go (inr x) y z h = absurd (refused-not-accepted (rw x at h))

  -- ---- the answer

  -- case by case
  pub answer-of : answer roster first second ≡ answer_of (outcome roster first second) (found_in roster first second)
  unfolding answer outcome answer_of
  answer-of = go (eqb (roster_number roster) 0) (eqb (validate roster first) 0) (eqb (validate roster second) 0)
    where
      go : (x y z : Bool)
          → cond x (cond y (cond z (record { number = 0; place = 0; findings = found_in roster first second }) (refused (validate roster second) 2)) (refused (validate roster first) 1)) (refused (roster_number roster) 0)
          ≡ answer_of (cond x (cond y (cond z None (Some (validate roster second, 2))) (Some (validate roster first, 1))) (Some (roster_number roster, 0)))
          (found_in roster first second)
      go true true true = refl
      go true true false = refl
      go true false z = refl
      go false y z = refl
