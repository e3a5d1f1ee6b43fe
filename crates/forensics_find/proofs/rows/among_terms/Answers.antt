-- One term of the first submission a turn.
use borrow.Author.Rules.{rules}
use Rattle.forensics_charges.specs.Charges.{among_terms}
use Rattle.forensics_find.proofs.rows.among_terms.Goals as goal

pub returns : goal.returns
unfolding among_terms
returns c = search rules
