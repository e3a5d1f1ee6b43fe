-- The head and the rows are the 53 bytes of the report; what stands after them is kept.
use mathlib.Core.Path.{◌≡◌}
use borrow.Author.Rules.{rules}
use lib.ListN.{length}
use Rattle.report_bytes.proofs.Parts.{report_parts}
use Rattle.report_bytes.proofs.put_report.Goals as goal

pub returns : goal.returns
returns c =
    let a = c.args in
    let nine : length a.rows ≡ 9 = search rules in
    let mask = c.named_mask in
    let head = c.put_head in
    let body = c.put_rows in
    report_parts a.out.now head.new.out body.new.out a.number a.place a.fork mask.result a.rows
    c.requires nine mask.ensures head.ensures body.ensures
