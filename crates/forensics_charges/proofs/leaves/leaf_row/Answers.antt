-- One use a turn.
use mathlib.Core.Path.{refl, ◌∙◌}
use Rattle.forensics.specs.Findings.{lowest}
use Rattle.submission_leaves.proofs.Entries.{entry-number}
use Rattle.forensics_charges.specs.Charges.{charge_of}
use Rattle.forensics_charges.proofs.LeafRows.{uses-all, uses-next, uses-done}
use Rattle.forensics_charges.proofs.leaves.leaf_row.Goals as goal

pub loop-i-init : goal.loop-i-init
unfolding charge_of lowest
loop-i-init c = uses-all _ _ refl

pub loop-i-preserved : goal.loop-i-preserved
loop-i-preserved c =
    let a = c.args in
    let l = c.loop-i in
    uses-next a.buffer.now a.n l.i _ l.invariant c.loop-i-test.true
    (c.u32_at-leaf.ensures.0 ∙ entry-number a.buffer.now l.i) c.leaf_reused-broken.ensures c.charged-row.ensures c.lower_row-best.ensures

pub returns : goal.returns
returns c =
    let l = c.loop-i in
    uses-done _ _ l.i l.invariant c.loop-i-test.false
