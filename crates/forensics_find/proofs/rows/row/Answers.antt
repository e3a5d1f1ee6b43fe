-- Rules 1 and 2, then rule 3, then rule 4: the lowest is the lower of them.
use Rattle.forensics_charges.specs.Charges.{ruled_by}
use Rattle.forensics_charges.proofs.Rows.{joined}
use Rattle.forensics_find.proofs.rows.row.Goals as goal

pub returns : goal.returns
unfolding ruled_by
returns c =
    joined _ _
    (joined _ _ c.among_terms-terms.ensures c.after_receipts-third.ensures c.lower_row.ensures)
    c.after_receipts-fourth.ensures c.lower_row-2.ensures
