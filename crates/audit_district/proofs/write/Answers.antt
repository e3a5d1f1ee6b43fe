-- The numbers while judging, and behind them what the pairs of the accepted submissions show.
use mathlib.Core.Path.{ap, ◌∙◌}
use native.Mathlib.Omega.{arith}
use Rattle.district.specs.District.{pairs, shown}
use Rattle.audit_district.proofs.Tail.{report_whole}
use Rattle.audit_district.proofs.write.Goals as goal

pub judge-entries-requires : goal.judge-entries-requires
judge-entries-requires c =
    let pre = c.requires in (pre.0, pre.1, pre.2, omega (arith, pre.3))

pub pairs_shown-shown-requires : goal.pairs_shown-shown-requires
pairs_shown-shown-requires c = c.judge-entries.ensures.held

pub returns : goal.returns
returns c =
    let a = c.args in
    report_whole a.roster.now a.buffer.now a.lengths.now a.report.now c.judge-entries.new.report c.put_tail.new.report c.pairs_shown-shown.result
    c.requires.3 (c.pairs_shown-shown.ensures ∙ ap (λ z. shown a.roster.now (pairs z)) c.judge-entries.ensures.accepted) c.judge-entries.ensures.bytes
    c.put_tail.ensures
