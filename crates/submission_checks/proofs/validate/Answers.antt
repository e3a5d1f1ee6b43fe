-- A roster's refusal comes before the submission's.
use mathlib.Core.Path.{sym}
use Rattle.std.proofs.lemmas.Result.{err_from_is_err_and}
use Rattle.refusal.proofs.Laws.{first-refused, first-accepted}
use Rattle.refusal.proofs.Refusals.{number-nonzero}
use Rattle.submission_checks.proofs.validate.Goals as goal

pub returns-in_err-validate-clause-number : goal.returns-in_err-validate-clause-number
returns-in_err-validate-clause-number c =
    let exit = err_from_is_err_and c.from_residual.result c.from_residual.ensures.1 in
    rw (exit.1, exit.2) (first-refused _ c.in_err-validate.ensures (number-nonzero c.in_err-validate.field-0.0))

pub validate_submission-requires : goal.validate_submission-requires
validate_submission-requires c = sym c.in_ok-validate.ensures

pub returns : goal.returns
returns c =
    let validated = c.validate_submission.ensures in
    record { number = first-accepted (sym c.in_ok-validate.ensures) validated.number; pointers = validated.pointers }
