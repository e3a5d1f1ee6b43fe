-- The report's bytes: where the named replicas stand in them, and which answer lies behind the number.
-- Assumes nothing.
use mathlib.Core.Path.{◌≡◌}
use mathlib.Core.Bool.{true, false}
use mathlib.Core.List.{List, ◌++◌}
use mathlib.Core.Logic.{◌⊎◌, inl, inr}
use Prim.Native.Nat.{ℕ, ◌<◌, ◌^◌}
use borrow.Author.Tests.{eqb-true, eqb-false}
use lib.Dec.{eqb}
use Rattle.words.specs.BigEndian.{be, number_at}
use Rattle.words.proofs.Laws.{number-be}
use Rattle.refusal.proofs.Laws.{look}
use Rattle.roster.specs.Roster.{roster_number}
use Rattle.submission.specs.Validate.{validate}
use Rattle.forensics.specs.Findings.{found_in, mask_of}
use Rattle.report.specs.Report.{Answer, refused, answer, report_bytes, named_in}

-- ---- the named replicas

pub named_in_lem : (a : Answer) (rest : List ℕ) → mask_of a.findings.rows < 256 ^ 2 → named_in (report_bytes a ++ rest) ≡ mask_of a.findings.rows
unfolding named_in number_at report_bytes be
named_in_lem a rest h = number-be 2 (mask_of a.findings.rows) h

-- ---- what lies behind the number

-- all was accepted, or there was a refusal
pub data Outcome (roster s₁ s₂ : List ℕ) : Type 0 where
  compared : roster_number roster ≡ 0 → validate roster s₁ ≡ 0 → validate roster s₂ ≡ 0
      → answer roster s₁ s₂ ≡ record { number = 0; place = 0; findings = found_in roster s₁ s₂ }
      → Outcome roster s₁ s₂
  stopped : (number place : ℕ) → (number ≡ 0 → ⊥) → answer roster s₁ s₂ ≡ refused number place → Outcome roster s₁ s₂

pub outcome : (roster s₁ s₂ : List ℕ) → Outcome roster s₁ s₂
unfolding answer
outcome roster s₁ s₂ = go (look (eqb (roster_number roster) 0)) (look (eqb (validate roster s₁) 0)) (look (eqb (validate roster s₂) 0))
  where
    go : (eqb (roster_number roster) 0 ≡ true) ⊎ (eqb (roster_number roster) 0 ≡ false)
        → (eqb (validate roster s₁) 0 ≡ true) ⊎ (eqb (validate roster s₁) 0 ≡ false)
        → (eqb (validate roster s₂) 0 ≡ true) ⊎ (eqb (validate roster s₂) 0 ≡ false) → Outcome roster s₁ s₂
    go (inr r) a b = stopped (roster_number roster) 0 (eqb-false _ _ r) (rw r)
    go (inl r) (inr a) b = stopped (validate roster s₁) 1 (eqb-false _ _ a) (rw (r, a))
    go (inl r) (inl a) (inr b) = stopped (validate roster s₂) 2 (eqb-false _ _ b) (rw (r, a, b))
    go (inl r) (inl a) (inl b) = compared (eqb-true _ _ r) (eqb-true _ _ a) (eqb-true _ _ b) (rw (r, a, b))
