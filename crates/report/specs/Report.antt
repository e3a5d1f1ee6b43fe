-- The report (document 01, "The report" and "What stops an audit"): the number, and every byte of the buffer
-- afterwards.
use Rattle.std.specs.Prelude.{Bool, cond, ℕ, eqb, ltb, length, drop, replicate}
use mathlib.Core.List.{List, ◌++◌, flat_map}
use Rattle.std.proofs.Math.Option.{Option, some, none}
use Rattle.words.specs.BigEndian.{be, number_at}
use Rattle.roster.specs.Roster.{roster_number}
use Rattle.replica.specs.Charges.{Charge}
use Rattle.submission.specs.Validate.{validate}
use Rattle.forensics.specs.Findings.{Findings, found_in, row_count, mask_of}

-- ---- the answer

pub record Answer : Type 0 where
  pub number : ℕ
  -- document 01's where: 0 roster or none, 1 or 2 the submission
  pub place : ℕ
  pub findings : Findings

-- after a refusal all but number and where are 0
unfoldable pub refused : ℕ → ℕ → Answer
refused number place =
    record { number = number; place = place; findings = record { fork = 0; rows = replicate row_count none } }

-- first 2 to 4, then 5 to 15 for the first submission, then 5 to 15 for the second
unfoldable pub answer : List ℕ → List ℕ → List ℕ → Answer
answer roster first second =
    let a = validate roster first in
    let b = validate roster second in
    cond (eqb (roster_number roster) 0)
    (cond (eqb a 0)
    (cond (eqb b 0)
    (record {
      number = 0;
      place = 0;
      findings = found_in roster first second;
    })
    (refused b 2))
    (refused a 1))
    (refused (roster_number roster) 0)

-- ---- the bytes

-- number, where, fork index, named replicas, then nine rows of rule and term
abbrev pub report_size : ℕ
report_size = 53

unfoldable pub row_bytes : Option Charge → List ℕ
row_bytes none = be 1 0 ++ be 4 0
row_bytes (some c) = be 1 c.rule ++ be 4 c.term

unfoldable pub report_bytes : Answer → List ℕ
report_bytes a =
    let f = a.findings in
    be 1 a.number ++ be 1 a.place ++ be 4 f.fork ++ be 2 (mask_of f.rows)
    ++ flat_map row_bytes f.rows

-- 1: the report buffer is below 53 bytes
unfoldable pub short : List ℕ → Bool
short report = ltb (length report) report_size

-- the number that is returned; 1 comes before all others
unfoldable pub audit_number : List ℕ → List ℕ → List ℕ → List ℕ → ℕ
audit_number roster first second report = cond (short report) 1 (answer roster first second).number

-- the report buffer afterwards: untouched with number 1, otherwise its first 53 bytes written and the rest
-- kept
unfoldable pub report_after : List ℕ → List ℕ → List ℕ → List ℕ → List ℕ
report_after roster first second report =
    cond (short report) report (report_bytes (answer roster first second) ++ drop report_size report)

-- the named replicas, in a report's bytes
unfoldable pub named_in : List ℕ → ℕ
named_in report = number_at 2 report 6
