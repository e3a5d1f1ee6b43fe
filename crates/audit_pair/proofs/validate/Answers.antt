-- Each refusal ends the checks; where there is none both are accepted.
use Rattle.std.proofs.lemmas.Result.{err_from_is_err_and}
use Rattle.audit_pair.proofs.Outcomes.{accepted, roster-refused, first-refused, second-refused, both-accepted}
use Rattle.audit_pair.proofs.validate.Goals as goal

pub returns-in_err-placed-clause-outcome : goal.returns-in_err-placed-clause-outcome
returns-in_err-placed-clause-outcome c =
    let a = c.args in
    let r = c.in_err-placed in
    let exit = err_from_is_err_and c.from_residual.result c.from_residual.ensures.1 in
    rw (exit.1, exit.2) (roster-refused a.roster.now a.first.now a.second.now r.field-0.0 c.validate.ensures r.ensures.refused)

pub returns-in_err-of_first-clause-outcome : goal.returns-in_err-of_first-clause-outcome
returns-in_err-of_first-clause-outcome c =
    let a = c.args in
    let r = c.in_err-of_first in
    let fine = accepted c.validate.ensures c.in_ok-placed.ensures.accepted in
    let exit = err_from_is_err_and c.from_residual-in_err-of_first.result c.from_residual-in_err-of_first.ensures.1 in
    rw (exit.1, exit.2)
    (first-refused a.roster.now a.first.now a.second.now fine r.field-0.0 c.validate_submission.ensures.number r.ensures.refused)

pub returns-in_err-of_second-clause-outcome : goal.returns-in_err-of_second-clause-outcome
returns-in_err-of_second-clause-outcome c =
    let a = c.args in
    let r = c.in_err-of_second in
    let fine = accepted c.validate.ensures c.in_ok-placed.ensures.accepted in
    let one = accepted c.validate_submission.ensures.number c.in_ok-of_first.ensures.accepted in
    let exit = err_from_is_err_and c.from_residual-in_err-of_second.result c.from_residual-in_err-of_second.ensures.1 in
    rw (exit.1, exit.2)
    (second-refused a.roster.now a.first.now a.second.now fine one r.field-0.0 c.validate_submission-2.ensures.number r.ensures.refused)

pub returns-clause-outcome : goal.returns-clause-outcome
returns-clause-outcome c =
    let a = c.args in
    let fine = accepted c.validate.ensures c.in_ok-placed.ensures.accepted in
    let one = accepted c.validate_submission.ensures.number c.in_ok-of_first.ensures.accepted in
    let two = accepted c.validate_submission-2.ensures.number c.in_ok-of_second.ensures.accepted in
    both-accepted a.roster.now a.first.now a.second.now fine one two
