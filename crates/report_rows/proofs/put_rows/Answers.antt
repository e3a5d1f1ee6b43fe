-- A row a turn, each where the one before ends.
-- A loop that fills a buffer, with the needs of any such loop; the step that is its own is `rows_more`.
use mathlib.Core.List.{List, map, flat_map}
use mathlib.Core.Path.{◌≡◌, refl, ap, ◌∙◌}
use native.Mathlib.Omega.{arith}
use borrow.Author.Rules.{rules}
use lib.ListN.{length}
use lib.Seq.{sets, take_all}
use Rattle.forensics_charges.specs.Charges.{Row, charge_of}
use Rattle.report.specs.Report.{row_bytes}
use Rattle.report_rows.proofs.Bytes.{rows_none, rows_more}
use Rattle.report_rows.proofs.put_rows.Goals as goal

pub loop-i-init : goal.loop-i-init
loop-i-init c = (refl, rows_none c.args.out.now)

pub loop-i-preserved : goal.loop-i-preserved
loop-i-preserved c =
    let l = c.loop-i in
    let a = c.args in
    let rows = a.rows in
    let long : length rows ≡ 9 = search rules in
    let put = c.put_row in
    let more = rows_more a.out.now l.out put.new.out rows l.i _ (omega arith) l.invariant.1 put.ensures in
    more

pub shape_of-out : goal.shape_of-out
shape_of-out c = c.loop-i.invariant.0

pub returns : goal.returns
returns c =
    let l = c.loop-i in
    let a = c.args in
    let rows = a.rows in
    let long : length rows ≡ 9 = search rules in
    l.invariant.1 ∙ ap (λ (part : List Row). sets a.out.now 8 (flat_map row_bytes (map charge_of part))) (take_all l.i rows (omega arith))
