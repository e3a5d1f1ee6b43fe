-- The roster first, then 8, 11 and 19; what they let through is assembled.
use mathlib.Core.Path.{refl, sym}
use native.Mathlib.Omega.{arith}
use Rattle.std.proofs.lemmas.Result.{err_from_is_err_and}
use Rattle.refusal.proofs.Refusals.{number-nonzero}
use Rattle.roster.proofs.Accepted.{sizes}
use Rattle.log_chain.specs.Log.{version1}
use Rattle.submission.specs.Validate.{form_of}
use Rattle.assembly.proofs.Answers.{roster-refuses, input-refuses}
use Rattle.assembly_service.proofs.Answers.{checked, refusal-answers}
use Rattle.assembly_service.proofs.assemble.Goals as goal

pub returns-in_err-validate : goal.returns-in_err-validate
returns-in_err-validate c =
    let a = c.args in
    let refusal = c.in_err-validate.field-0.0 in
    let p = err_from_is_err_and c.from_residual.result c.from_residual.ensures.1 in
    let r = roster-refuses a.roster.now a.log.now a.items.now a.output.now c.in_err-validate.ensures (number-nonzero refusal) in
    let it = refusal-answers a.roster.now a.log.now a.items.now a.output.now (refl, refl) r (number-nonzero refusal) in
    rw (p.1, p.2) (record { number = it.0; length = it.1.0; bytes = it.1.1 })

pub signature_size-requires : goal.signature_size-requires
signature_size-requires c =
    let s = sizes c.args.roster.now (sym c.in_ok-validate.ensures) in
    omega (arith, s.low, s.size)

pub returns-in_err-validate_input : goal.returns-in_err-validate_input
unfolding form_of version1
returns-in_err-validate_input c =
    let a = c.args in
    let refusal = c.in_err-validate_input.field-0.0 in
    let p = err_from_is_err_and c.from_residual-in_err-validate_input.result c.from_residual-in_err-validate_input.ensures.1 in
    let number = rw c.signature_size.ensures.0 at c.in_err-validate_input.ensures in
    let r = input-refuses a.roster.now a.log.now a.items.now a.output.now (sym c.in_ok-validate.ensures) number (number-nonzero refusal) in
    let it = refusal-answers a.roster.now a.log.now a.items.now a.output.now (refl, refl) r (number-nonzero refusal) in
    rw (p.1, p.2) (record { number = it.0; length = it.1.0; bytes = it.1.1 })

pub assemble_checked-requires : goal.assemble_checked-requires
unfolding form_of version1
assemble_checked-requires c =
    let a = c.args in
    let number = rw c.signature_size.ensures.0 at c.in_ok-validate_input.ensures in
    checked a.roster.now a.log.now a.items.now (sym c.in_ok-validate.ensures) (sym number)
