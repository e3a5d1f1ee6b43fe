-- The answer of accepted submissions has number 0, where 0, and the findings.
use mathlib.Core.Path.{refl}
use Rattle.forensics_charges.specs.Charges.{findings_of}
use Rattle.report_bytes.specs.Answers.{answered, accepted}
use Rattle.report_bytes.proofs.write_accepted.Goals as goal

pub returns : goal.returns
unfolding accepted answered findings_of
returns c = record { number = refl; bytes = rw c.unwrap_or.ensures at c.put_report.ensures }
