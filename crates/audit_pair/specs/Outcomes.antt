-- The outcome of the checks, and for each case document 01's number and values ("What stops an audit" and
-- "The report"); and the pointers that go with it (document 02, W5).
use Rattle.std.specs.Prelude.{cond, List, ℕ, eqb, Option, None, Some, Result, Ok, Err}
use Rattle.refusal.specs.Refusals.{number}
use Rattle.roster.specs.Roster.{roster_number}
use Rattle.log_terms.specs.declared.LogPointers.{LogPointers}
use Rattle.log_terms.specs.Pointed.{PointersOf}
use Rattle.submission.specs.View.{committed}
use Rattle.submission.specs.Validate.{form_of, view_of, validate}
use Rattle.forensics.specs.Findings.{Findings}
use Rattle.report.specs.Report.{Answer, refused}
use Rattle.audit_pair.specs.declared.Place.{Place}
use Rattle.audit_pair.specs.declared.Place.TheVariants.{Roster, First, Second}
use Rattle.audit_pair.specs.declared.Refused.{Refused}

-- all are accepted, or the number of the first refusal and its place: 0 for the roster, 1 or 2 for the
-- submission
abbrev pub Outcome : Type 0
Outcome = Option (ℕ × ℕ)

-- first 2 to 4, then 5 to 15 for the first submission, then 5 to 15 for the second
unfoldable pub outcome : List ℕ → List ℕ → List ℕ → Outcome
outcome roster first second =
    let a = validate roster first in
    let b = validate roster second in
    cond (eqb (roster_number roster) 0) (cond (eqb a 0) (cond (eqb b 0) None (Some (b, 2))) (Some (a, 1)))
    (Some (roster_number roster, 0))

-- the answer of each case, where the accepted submissions show some findings
unfoldable pub answer_of : Outcome → Findings → Answer
answer_of None findings = record { number = 0; place = 0; findings = findings }
answer_of (Some r) findings = refused r.0 r.1

-- ---- what the code gives

abbrev pub place : Place → ℕ
place Roster = 0
place First = 1
place Second = 2

abbrev pub outcome_of : {A : Type 0} → Result A Refused → Outcome
outcome_of (Ok x) = None
outcome_of (Err r) = Some (number r.refusal, place r.place)

-- the pointers of the two submissions: of the committed records, and of the log
pub record PointersBoth (roster one other : List ℕ) (p : LogPointers × LogPointers) : Type 0 where
  pub first : PointersOf (form_of roster) (committed (view_of roster one)) (view_of roster one).log p.0
  pub second :
      PointersOf (form_of roster) (committed (view_of roster other)) (view_of roster other).log p.1
