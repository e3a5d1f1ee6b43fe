-- The rows first; where a term has no leader, or the output is too small, nothing is written.
use mathlib.Core.Path.{refl, sym}
use Prim.Native.Nat.{ℕ}
use native.Mathlib.Nat.{le_of_eq}
use native.Mathlib.Omega.{arith}
use lib.ListN.{length-replicate}
use Rattle.roster.proofs.Accepted.{sizes}
use Rattle.log_chain.specs.Log.{version1}
use Rattle.submission.specs.Validate.{form_of}
use Rattle.assembly_service.proofs.Counted.{some_bytes}
use Rattle.assembly_service.proofs.Outputs.{plan_given, missing-answers, plan-held, short-answers, written-answers}
use Rattle.assembly_service.proofs.assemble_checked.Goals as goal

pub take_rows-requires : goal.take_rows-requires
unfolding form_of version1
take_rows-requires c =
    (c.requires, le_of_eq (sym (length-replicate {A = ℕ} 2835 0)), le_of_eq (sym (length-replicate {A = ℕ} 2577 0)), le_of_eq (sym (length-replicate {A = ℕ} 715 0)))

pub returns-in_default : goal.returns-in_default
returns-in_default c =
    let a = c.args in
    let it =
    missing-answers a.roster.now a.log.now a.items.now a.output.now c.requires _ _ _ c.take_rows.ensures
    c.in_default.is (refl, refl) in
    record { number = it.0; length = it.1.0; bytes = it.1.1 }

pub signature_size-requires : goal.signature_size-requires
signature_size-requires c =
    let s = sizes _ c.requires.fine in
    omega (arith, s.low, s.size)

pub replicas-requires : goal.replicas-requires
replicas-requires c =
    let s = sizes _ c.requires.fine in
    omega (arith, s.low, s.size)

pub nonzero_div-plan : goal.nonzero_div-plan
nonzero_div-plan c = rw c.record_size.ensures.0 (omega (arith, some_bytes 4))

pub written_size-requires : goal.written_size-requires
written_size-requires c =
    let a = c.args in
    let plan = plan_given a.roster.now a.log.now _ _ _ _ c.signature_size.ensures.0 c.replicas.ensures.0 c.record_size.ensures.0 in
    let rows = (plan-held a.roster.now a.log.now a.items.now a.output.now c.requires _ _ _ c.take_rows.ensures _ _ c.in-Some.is plan).held in
    (rows.width, rows.size, rows.replicas, rows.few, rows.long)

pub returns-then-output-written_size : goal.returns-then-output-written_size
returns-then-output-written_size c =
    let a = c.args in
    let plan = plan_given a.roster.now a.log.now _ _ _ _ c.signature_size.ensures.0 c.replicas.ensures.0 c.record_size.ensures.0 in
    let held = plan-held a.roster.now a.log.now a.items.now a.output.now c.requires _ _ _ c.take_rows.ensures _ _ c.in-Some.is plan in
    let it =
    short-answers a.roster.now a.log.now a.items.now a.output.now c.requires _ _ _ c.take_rows.ensures _ _ c.in-Some.is plan
    (c.written_size.ensures _ _ _ held) c.if-output-written_size.true (refl, refl) in
    record { number = it.0; length = it.1.0; bytes = it.1.1 }

pub write-requires : goal.write-requires
write-requires c =
    let a = c.args in
    let plan = plan_given a.roster.now a.log.now _ _ _ _ c.signature_size.ensures.0 c.replicas.ensures.0 c.record_size.ensures.0 in
    let held = plan-held a.roster.now a.log.now a.items.now a.output.now c.requires _ _ _ c.take_rows.ensures _ _ c.in-Some.is plan in
    (held, omega (arith, c.written_size.ensures _ _ _ held, c.if-output-written_size.false))

pub returns : goal.returns
returns c =
    let a = c.args in
    let plan = plan_given a.roster.now a.log.now _ _ _ _ c.signature_size.ensures.0 c.replicas.ensures.0 c.record_size.ensures.0 in
    let held = plan-held a.roster.now a.log.now a.items.now a.output.now c.requires _ _ _ c.take_rows.ensures _ _ c.in-Some.is plan in
    let it =
    written-answers a.roster.now a.log.now a.items.now a.output.now c.requires _ _ _ c.take_rows.ensures _ _ c.in-Some.is plan
    (c.written_size.ensures _ _ _ held) (omega (arith, c.if-output-written_size.false)) c.write.ensures.size c.write.ensures.bytes in
    record { number = it.0; length = it.1.0; bytes = it.1.1 }
