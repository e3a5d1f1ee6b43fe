-- The charges of rule 1, then those of rule 2: the lowest is the lower of the two.
use mathlib.Core.Path.{ap, ◌∙◌}
use mathlib.Core.Bool.{Bool}
use Rattle.replica.specs.Charges.{charge}
use Rattle.forensics.specs.Findings.{lowest}
use Rattle.forensics_charges.specs.Charges.{between}
use Rattle.forensics_charges.proofs.Rows.{joined}
use Rattle.forensics_charges.proofs.between.Goals as goal

pub returns : goal.returns
unfolding between
returns c =
    let a = c.args in
    let votes = c.charged-votes.ensures ∙ ap (λ (b : Bool). lowest (charge b 1 a.x.term))
    c.two_requests.ensures in
    let stamps = c.charged-stamps.ensures ∙ ap (λ (b : Bool). lowest (charge b 2 a.x.term)) c.two_logs.ensures in
    joined _ _ votes stamps c.lower_row.ensures
