-- The leader certificates first, then the commit certificate.
use mathlib.Core.Path.{sym, ◌∙◌}
use native.Mathlib.Omega.{arith}
use Rattle.submission.specs.Reading.{leaders_from}
use Rattle.submission_parts.proofs.Inside.{leaders-inside}
use Rattle.submission_quorums.proofs.Quorums.{leaders-fail, leaders-hold}
use Rattle.submission_quorums.proofs.all_signers_quorate.Goals as goal

pub leaders_quorate-requires : goal.leaders_quorate-requires
unfolding leaders_from
leaders_quorate-requires c =
    let p = c.requires in
    let a = c.args in
    let inside = leaders-inside a.width a.size a.s.now p.3 in
    (p.0, p.1, omega arith, p.2.short, p.2.width, p.2.signature, rw (c.leader_count-leaders.ensures.0, c.leaders_from-from.ensures, c.trailer_at-end.ensures) inside)

pub returns-else-leaders_quorate : goal.returns-else-leaders_quorate
unfolding leaders_from
returns-else-leaders_quorate c =
    let a = c.args in
    let masks = rw (c.leader_count-leaders.ensures.0, c.leaders_from-from.ensures) at c.leaders_quorate.ensures in
    c.if-leaders_quorate.false ∙ leaders-fail a.width a.size a.s.now a.n (sym masks ∙ c.if-leaders_quorate.false)

pub returns-then-leaders_quorate : goal.returns-then-leaders_quorate
unfolding leaders_from
returns-then-leaders_quorate c =
    let a = c.args in
    let masks = rw (c.leader_count-leaders.ensures.0, c.leaders_from-from.ensures) at c.leaders_quorate.ensures in
    c.commit_quorate.ensures ∙ leaders-hold a.width a.size a.s.now a.n (sym masks ∙ c.if-leaders_quorate.true)
