-- The terms first, and then the requests.
use mathlib.Core.Path.{ap}
use mathlib.Core.Bool.{not}
use borrow.Author.Tests.{eq-eqb, ne_eqb}
use Rattle.replica.specs.Charges.{two_votes}
use Rattle.forensics_charges.specs.Rules.{vote_of}
use Rattle.forensics_charges.proofs.rules.two_votes.Goals as goal

pub returns-then-x-y : goal.returns-then-x-y
unfolding two_votes vote_of
returns-then-x-y c = rw (eq-eqb _ _ c.if-x-y.true) (ap not c.same_request.ensures)

pub returns-else-x-y : goal.returns-else-x-y
unfolding two_votes vote_of
returns-else-x-y c = rw (ne_eqb _ _ c.if-x-y.false)
