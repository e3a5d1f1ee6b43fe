-- Without receipts nobody is charged.
use borrow.Author.Rules.{rules}
use Rattle.forensics.specs.Findings.{lowest}
use Rattle.forensics_charges.specs.Charges.{charge_of, after_receipts}
use Rattle.forensics_find.proofs.rows.after_receipts.Goals as goal

pub returns-in_err-given : goal.returns-in_err-given
unfolding after_receipts charge_of lowest
returns-in_err-given c = rw (c.from_residual.ensures, c.in_err-given.was)

pub returns : goal.returns
unfolding after_receipts
returns c = rw c.in_ok-given.was (search rules)
