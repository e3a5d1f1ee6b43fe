-- A refusal's fork index is 0, and its nine rows are no charges.
use mathlib.Core.Path.{refl}
use Rattle.forensics_charges.specs.Charges.{charge_of}
use Rattle.report.specs.Report.{refused}
use Rattle.report_bytes.specs.Answers.{answered}
use Rattle.report_bytes.proofs.write_refused.Goals as goal

pub returns : goal.returns
unfolding answered charge_of refused
returns c = record { number = refl; bytes = c.put_report.ensures }
