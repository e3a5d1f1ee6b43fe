-- The report's answer, from findings as the code holds them (document 01, "The report").
use Rattle.std.specs.Prelude.{List, map, ℕ}
use Rattle.forensics_charges.specs.declared.Findings.{Findings}
use Rattle.forensics_charges.specs.Charges.{Row, charge_of, findings_of}
use Rattle.report.specs.Report.{Answer}

-- number, where, fork index and rows
unfoldable pub answered : ℕ → ℕ → ℕ → List Row → Answer
answered number place fork rows =
    record { number = number; place = place; findings = record { fork = fork; rows = map charge_of rows } }

-- number 0: both submissions were accepted
unfoldable pub accepted : Findings → Answer
accepted f = record { number = 0; place = 0; findings = findings_of f }
