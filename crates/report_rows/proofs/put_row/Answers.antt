-- The rule, then the term.
use mathlib.Core.Path.{◌≡◌}
use borrow.Author.Rules.{rules}
use Rattle.report_rows.proofs.Bytes.{fields, put_row, row-is}
use Rattle.report_rows.proofs.put_row.Goals as goal

pub returns : goal.returns
returns c =
    let rule = c.put_u8 in
    let a = c.args in
    let both : c.map_or-rule.result ≡ fields a.row = search rules in
    put_row a.out.now rule.new.out _ a.at _ _ _ rule.ensures c.put_number.ensures (row-is a.row _ both)
