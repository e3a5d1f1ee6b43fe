-- One check after the other: the first that is not met gives its number.
use mathlib.Core.Path.{sym}
use native.Mathlib.Nat.{mul-div-le}
use native.Mathlib.Omega.{arith}
use lib.ListN.{length}
use Rattle.refusal.proofs.Laws.{met, unmet}
use Rattle.log_chain.specs.Records.{record_size}
use Rattle.assembly.specs.Assembly.{log_of}
use Rattle.assembly.proofs.Answers.{number-8, number-11, number-19, input-met}
use Rattle.assembly_service.proofs.Counted.{some_bytes}
use mathlib.Core.Path.{ap}
use mathlib.Core.Bool.{not}
use Rattle.assembly_service.proofs.validate_input.Goals as goal

pub returns-then-not-log_counted : goal.returns-then-not-log_counted
returns-then-not-log_counted c = sym (number-8 _ _ _ _ (unmet c.log_counted.ensures (ap not c.if-not-log_counted.true)))

pub nonzero_div-records : goal.nonzero_div-records
nonzero_div-records c = rw c.record_size.ensures.0 (omega (arith, some_bytes c.args.width))

pub terms_in_order-requires : goal.terms_in_order-requires
terms_in_order-requires c =
    (c.requires.0, rw c.record_size.ensures.0 (mul-div-le (length c.args.log.now) (record_size c.args.width)))

pub returns-then-not-terms_in_order : goal.returns-then-not-terms_in_order
unfolding log_of
returns-then-not-terms_in_order c =
    let size = c.record_size.ensures.0 in
    let counted = met c.log_counted.ensures (ap not c.if-not-log_counted.false) in
    sym (number-11 _ _ _ _ counted (unmet (rw size at c.terms_in_order.ensures) (ap not c.if-not-terms_in_order.true)))

pub returns-then-not-items_whole : goal.returns-then-not-items_whole
unfolding log_of
returns-then-not-items_whole c =
    let size = c.record_size.ensures.0 in
    let counted = met c.log_counted.ensures (ap not c.if-not-log_counted.false) in
    let order = met (rw size at c.terms_in_order.ensures) (ap not c.if-not-terms_in_order.false) in
    sym (number-19 _ _ _ _ counted order (unmet c.items_whole.ensures (ap not c.if-not-items_whole.true)))

pub returns : goal.returns
unfolding log_of
returns c =
    let size = c.record_size.ensures.0 in
    let counted = met c.log_counted.ensures (ap not c.if-not-log_counted.false) in
    let order = met (rw size at c.terms_in_order.ensures) (ap not c.if-not-terms_in_order.false) in
    sym (input-met _ _ _ _ counted order (met c.items_whole.ensures (ap not c.if-not-items_whole.false)))
