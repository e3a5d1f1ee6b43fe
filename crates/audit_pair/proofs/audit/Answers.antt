-- A short buffer first, then the report.
use native.Mathlib.Omega.{arith}
use borrow.Author.Tests.{lt-ltb, le-ltb}
use lib.ListN.{length}
use Rattle.report.specs.Report.{report_size, short, audit_number, report_after}
use Rattle.audit_pair.proofs.Outcomes.{answer-of}
use Rattle.audit_pair.proofs.audit.Goals as goal

pub returns-then-report-lt-REPORT_SIZE : goal.returns-then-report-lt-REPORT_SIZE
unfolding audit_number report_after short
returns-then-report-lt-REPORT_SIZE c =
    let e = lt-ltb (length c.args.report.now) report_size (omega arith) in
    record { number = rw e; bytes = rw e }

pub returns : goal.returns
unfolding audit_number report_after short
returns c =
    let e = le-ltb (length c.args.report.now) report_size (omega arith) in
    let a = c.args in
    let same = answer-of a.roster.now a.first.now a.second.now in
    record { number = rw (e, same) c.write.ensures.number; bytes = rw (e, same) c.write.ensures.bytes }
