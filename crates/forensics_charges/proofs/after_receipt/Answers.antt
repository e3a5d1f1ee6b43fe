-- The rule is charged where it is broken.
use mathlib.Core.Path.{ap, ◌∙◌}
use mathlib.Core.Bool.{Bool}
use Rattle.replica.specs.Charges.{charge}
use Rattle.forensics.specs.Findings.{lowest}
use Rattle.forensics_charges.specs.Charges.{number}
use Rattle.forensics_charges.proofs.after_receipt.Goals as goal

pub returns : goal.returns
returns c =
    let a = c.args in
    c.charged.ensures ∙ ap (λ (b : Bool). lowest (charge b (number a.rule) a.y.term)) c.receipt_forgotten.ensures
