-- The three stand one after the other.
use mathlib.Core.Path.{◌≡◌}
use borrow.Author.Rules.{rules}
use Rattle.audit_district.proofs.Tail.{positions, tail_parts}
use Rattle.audit_district.proofs.put_tail.Goals as goal

pub returns : goal.returns
returns c =
    let a = c.args in
    let both : c.map_or-lower.result ≡ positions a.shown.fork = search rules in
    tail_parts a.report.now c.put_u16.new.out c.put_u8.new.out c.put_u8-2.new.out a.at a.shown _ both
    c.put_u16.ensures c.put_u8.ensures c.put_u8-2.ensures
