-- A test that fails ends the check, and the last decides.
use native.Mathlib.Nat.{mul-div-le}
use native.Mathlib.Omega.{arith}
use lib.ListN.{length}
use Rattle.log_chain.specs.Records.{record_size}
use Rattle.assembly_service.proofs.Counted.{some_bytes, log-cut, log-long, log-terms}
use Rattle.assembly_service.proofs.log_counted.Goals as goal

pub nonzero_rem-log : goal.nonzero_rem-log
nonzero_rem-log c = rw c.record_size-size.ensures.0 (omega (arith, some_bytes c.args.width))

pub returns-then-log-size-ne0 : goal.returns-then-log-size-ne0
returns-then-log-size-ne0 c =
    let size = c.record_size-size.ensures.0 in
    log-cut _ _ (rw size at c.if-log-size-ne0.true)

pub nonzero_div-records : goal.nonzero_div-records
nonzero_div-records c = rw c.record_size-size.ensures.0 (omega (arith, some_bytes c.args.width))

pub returns-then-records-gt-RECORD_MOST : goal.returns-then-records-gt-RECORD_MOST
returns-then-records-gt-RECORD_MOST c =
    let size = c.record_size-size.ensures.0 in
    log-long _ _ (rw size at c.if-log-size-ne0.false) (rw size at c.if-records-gt-RECORD_MOST.true)

pub terms_at_most-requires : goal.terms_at_most-requires
terms_at_most-requires c =
    let size = c.record_size-size.ensures.0 in
    (c.requires, rw size (mul-div-le (length c.args.log.now) (record_size c.args.width)))

pub returns : goal.returns
returns c =
    let size = c.record_size-size.ensures.0 in
    log-terms _ _ (rw size at c.if-log-size-ne0.false) (rw size at c.if-records-gt-RECORD_MOST.false) (rw size at c.terms_at_most.ensures)
