-- Check 9 one test after the other: the first that fails, or the last, gives the answer.
-- Assumes nothing.
use mathlib.Core.Path.{◌≡◌}
use mathlib.Core.Bool.{Bool, true, false}
use mathlib.Core.List.{List}
use Prim.Native.Nat.{ℕ, ◌+◌, ◌*◌, ◌<◌}
use native.Mathlib.Omega.{arith}
use borrow.Author.Tests.{eq-eqb, ne_eqb}
use lib.Dec.{eqb}
use Rattle.refusal.specs.Checks.{all}
use Rattle.refusal.proofs.Laws.{first_fails, first_holds, all_one}
use Rattle.submission.specs.Trailer.{trailer_at, leader_count, distance}
use Rattle.submission.specs.Reading.{certificates_end, commit_end, leaders_from, stamps_from, commit_from, laid_out}
use Rattle.submission_parts.specs.Parts.{commit_tests, leader_tests}

-- ---- part 4 at a place

module _ (S : ℕ) (s : List ℕ) (at : ℕ) where
  pub commit-elsewhere : (at + distance s 4 ≡ trailer_at s → ⊥) → false ≡ all (commit_tests S s at)
  unfolding commit_tests
  commit-elsewhere h = first_fails _ _ (ne_eqb _ _ h)

  module _ (here : at + distance s 4 ≡ trailer_at s) where
    pub commit-none : distance s 4 ≡ 0 → true ≡ all (commit_tests S s at)
    unfolding commit_tests
    commit-none h = rw (eq-eqb _ _ h) (first_holds _ _ (eq-eqb _ _ here) (all_one true))

    pub commit-ends : (distance s 4 ≡ 0 → ⊥) → eqb (commit_end S s at) (trailer_at s) ≡ all (commit_tests S s at)
    unfolding commit_tests
    commit-ends h = rw (ne_eqb _ _ h) (first_holds _ _ (eq-eqb _ _ here) (all_one _))

    pub commit-passes : (distance s 4 ≡ 0 → ⊥) → trailer_at s < commit_end S s at → false ≡ all (commit_tests S s at)
    unfolding commit_tests
    commit-passes h beyond =
        rw (ne_eqb _ _ h, ne_eqb (commit_end S s at) (trailer_at s) (λ e. omega arith)) (first_holds _ _ (eq-eqb _ _ here) (all_one false))

-- ---- part 2 at a place

module _ (w S : ℕ) (s : List ℕ) (at : ℕ) where
  pub stamps-elsewhere : (certificates_end w S s (leader_count s) at + distance s 3 ≡ trailer_at s → ⊥) → false ≡ all (leader_tests w S s at)
  unfolding leader_tests
  stamps-elsewhere h = first_fails _ _ (ne_eqb _ _ h)

  pub leaders-pass : trailer_at s < certificates_end w S s (leader_count s) at → false ≡ all (leader_tests w S s at)
  leaders-pass beyond = stamps-elsewhere (λ e. omega arith)

  pub stamps-here : certificates_end w S s (leader_count s) at + distance s 3 ≡ trailer_at s
      → {r : Bool} → r ≡ all (commit_tests S s (certificates_end w S s (leader_count s) at + leader_count s * S)) → r ≡ all (leader_tests w S s at)
  unfolding leader_tests
  stamps-here h e = first_holds _ _ (eq-eqb _ _ h) e

-- ---- all parts

module _ (w S : ℕ) (s : List ℕ) where
  pub records-elsewhere : (distance s 1 ≡ trailer_at s → ⊥) → false ≡ laid_out w S s
  unfolding laid_out
  records-elsewhere h = first_fails _ _ (ne_eqb _ _ h)

  module _ (first : distance s 1 ≡ trailer_at s) where
    pub leaders-elsewhere : (leaders_from w S s + distance s 2 ≡ trailer_at s → ⊥) → false ≡ laid_out w S s
    unfolding laid_out
    leaders-elsewhere h = first_holds _ _ (eq-eqb _ _ first) (first_fails _ _ (ne_eqb _ _ h))

    pub leaders-here : leaders_from w S s + distance s 2 ≡ trailer_at s → {r : Bool} → r ≡ all (leader_tests w S s (leaders_from w S s)) → r ≡ laid_out w S s
    unfolding laid_out commit_from stamps_from leader_tests commit_tests
    leaders-here h e = first_holds _ _ (eq-eqb _ _ first) (first_holds _ _ (eq-eqb _ _ h) e)
