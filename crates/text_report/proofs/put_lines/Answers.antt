-- The lines of number and where, of the fork index, and of the replicas.
use mathlib.Core.Path.{ap}
use Rattle.text_line.specs.Texts.{fork_line}
use Rattle.text_report.specs.Lines.{lines}
use Rattle.text_decimal.proofs.Puts.{put_then, put_same}
use Rattle.text_report.proofs.Replicas.{refusal_of}
use Rattle.text_report.proofs.put_lines.Goals as goal

pub returns : goal.returns
unfolding lines
returns c =
    let number = c.from.ensures in
    let place = c.from-2.ensures in
    let index = c.u32_at.ensures.0 in
    let refusal = put_same c.put_refusal-first.ensures (refusal_of number place) in
    let fork = put_same c.put_fork-second.ensures (ap fork_line index) in
    put_then (put_then refusal fork) c.put_replicas.ensures
