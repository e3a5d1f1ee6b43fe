-- The second submission's signatures after the first's, in one buffer.
use mathlib.Core.Path.{ap, ◌∙◌}
use native.Mathlib.Omega.{arith}
use Rattle.forensics.specs.Findings.{lowest}
use Rattle.submission_leaves.specs.Entries.{entry_uses}
use Rattle.forensics_find.specs.Leaves.{side_uses, leaf_row}
use Rattle.forensics_find.proofs.Gathered.{few-leaders, both_gathered}
use Rattle.forensics_find.proofs.leaves.replica_row.Goals as goal

pub gather-first-requires : goal.gather-first-requires
gather-first-requires c =
    let p = c.requires in
    (p.0.checked, p.0.pointed, p.2, p.3, p.0.wide, omega (arith, few-leaders _ _ _ p.0, p.4))

pub gather-both-requires : goal.gather-both-requires
gather-both-requires c =
    let put = c.gather-first in
    let p = c.requires in (
      p.1.checked,
      p.1.pointed,
      p.2,
      p.3,
      p.1.wide,
      omega (arith, few-leaders _ _ _ p.0, few-leaders _ _ _ p.1, p.4, put.ensures.few, put.auto.buffer),
    )

pub leaf_row-requires : goal.leaf_row-requires
leaf_row-requires c =
    let second = c.gather-both in
    let first = c.gather-first in
    let p = c.requires in
    omega (arith, few-leaders _ _ _ p.0, few-leaders _ _ _ p.1, p.4, first.ensures.few, second.ensures.few, first.auto.buffer, second.auto.buffer)

pub returns : goal.returns
unfolding leaf_row side_uses entry_uses
returns c =
    let second = c.gather-both in
    let first = c.gather-first in
    let a = c.args in
    let roster = a.roster.now in
    c.leaf_row.ensures
    ∙ ap lowest
    (both_gathered (side_uses roster a.a.now a.one a.k) (side_uses roster a.b.now a.other a.k) first.ensures.uses second.ensures.uses)
