-- The fork and the rows from the first difference of the logs and the receipts.
use mathlib.Core.Path.{◌≡◌}
use native.Mathlib.Omega.{arith}
use Rattle.std.specs.Prelude.{unwrap_or}
use Rattle.submission_parts.proofs.Inside.{records-inside}
use Rattle.forensics_charges.specs.Charges.{difference_of}
use Rattle.forensics_find.proofs.Reached.{index_kept}
use Rattle.forensics_find.proofs.Shown.{read-says}
use Rattle.forensics_find.proofs.found.Goals as goal

pub difference-difference-requires : goal.difference-difference-requires
difference-difference-requires c =
    let a = c.args in
    let p = c.requires in
    rw (c.record_count.ensures.0, c.record_count-2.ensures.0)
    (p.0.width, omega (arith, records-inside a.width a.size a.a.now p.1), omega (arith, records-inside a.width a.size a.b.now p.4))

pub returns-clause-findings : goal.returns-clause-findings
returns-clause-findings c =
    let a = c.args in
    let d = c.difference-difference.result in
    let is : d ≡ difference_of (unwrap_or d 0) = index_kept d c.difference-difference.ensures.from_one in
    read-says a.width a.size a.a.now a.b.now _ _ c.difference-difference.ensures.index
    c.record_count.ensures.0
    c.record_count-2.ensures.0
    c.receipts_of-first.ensures c.receipts_of-second.ensures (rw is at c.fork.ensures.index)
    (rw is at c.rows.ensures)
