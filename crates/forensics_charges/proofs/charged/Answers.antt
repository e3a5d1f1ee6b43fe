-- A broken rule is the one charge; no rule broken is none.
use Rattle.replica.specs.Charges.{charge}
use Rattle.forensics.specs.Findings.{lower, lowest}
use Rattle.forensics_charges.specs.Charges.{meaning, charge_of}
use Rattle.forensics_charges.proofs.charged.Goals as goal

pub returns-then-broken : goal.returns-then-broken
unfolding charge_of meaning charge lower lowest
returns-then-broken c = rw (c.if-broken.true, c.number.ensures)

pub returns-else-broken : goal.returns-else-broken
unfolding charge_of charge lowest
returns-else-broken c = rw c.if-broken.false
