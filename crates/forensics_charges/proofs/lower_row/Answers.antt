-- A row that names nobody leaves it to the other; of two that do, the order of ranks and terms decides.
use mathlib.Core.Path.{sym, ◌∙◌}
use Rattle.forensics.specs.Findings.{lower}
use Rattle.forensics_charges.specs.Charges.{least, charge_of}
use Rattle.forensics_charges.proofs.Lowest.{least-none}
use Rattle.forensics_charges.proofs.lower_row.Goals as goal

pub returns-then-sooner : goal.returns-then-sooner
unfolding least lower charge_of
returns-then-sooner c =
    rw (c.in-Some-Some.is-0, c.in-Some-Some.is-1, sym c.sooner.ensures ∙ c.if-sooner.true)

pub returns-else-sooner : goal.returns-else-sooner
unfolding least lower charge_of
returns-else-sooner c =
    rw (c.in-Some-Some.is-0, c.in-Some-Some.is-1, sym c.sooner.ensures ∙ c.if-sooner.false)

pub returns-in_default-None : goal.returns-in_default-None
unfolding charge_of
returns-in_default-None c = rw c.in_default-None.is-1 (sym (least-none (charge_of c.args.x)))

pub returns-in-None-default : goal.returns-in-None-default
unfolding least charge_of
returns-in-None-default c = rw c.in-None-default.is-0
