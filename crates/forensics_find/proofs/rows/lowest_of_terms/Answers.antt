-- One term a turn.
use mathlib.Core.Path.{refl}
use native.Mathlib.Omega.{arith}
use Rattle.forensics.specs.Findings.{lowest}
use Rattle.forensics_charges.specs.Charges.{charge_of}
use Rattle.forensics_find.proofs.Left.{inside_all, rows_all, first-inside, next-inside, inside_next, rows_next, rows-done, end-inside}
use Rattle.forensics_find.proofs.rows.lowest_of_terms.Goals as goal

pub loop-later-init : goal.loop-later-init
unfolding charge_of lowest
loop-later-init g c =
    let a = c.args in (
      inside_all a.width a.size a.s.now c.requires.laid_out.1 c.leader_count-later.ensures.0 c.leaders_from-at.ensures,
      λ f h. rows_all a.width a.size a.s.now f refl c.leader_count-later.ensures.0 c.leaders_from-at.ensures,
    )

pub certificate_end-next-requires : goal.certificate_end-next-requires
certificate_end-next-requires g c =
    let a = c.args in
    let l = c.loop-later in
    (c.requires.laid_out.0.width, end-inside a.width a.size a.s.now l.later l.at l.invariant.0 (omega arith))

pub tenure_at-term-requires : goal.tenure_at-term-requires
tenure_at-term-requires g c =
    let a = c.args in
    let l = c.loop-later in
    let p = c.requires.laid_out.0 in (
      p.long,
      p.short,
      p.width,
      first-inside a.width a.size a.s.now l.later l.at l.invariant.0 (omega arith),
      next-inside a.width a.size a.s.now l.later l.at l.invariant.0 (omega arith) c.certificate_end-next.ensures,
    )

pub loop-later-preserved : goal.loop-later-preserved
loop-later-preserved g c =
    let a = c.args in
    let l = c.loop-later in (
      inside_next a.width a.size a.s.now l.later l.at l.invariant.0 (omega arith) c.certificate_end-next.ensures,
      λ f h. rows_next a.width a.size a.s.now f _ l.later l.at (l.invariant.1 f h) (omega arith)
          c.certificate_end-next.ensures c.tenure_at-term.ensures (h _ _ c.row.ensures) c.lower_row-best.ensures,
    )

pub returns : goal.returns
returns g c f h =
    let a = c.args in
    let l = c.loop-later in
    rows-done a.width a.size a.s.now f _ l.later l.at (l.invariant.1 f h) (omega arith)
