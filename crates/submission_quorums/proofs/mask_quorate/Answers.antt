-- Fewer ones than a quorum, or a bit above replica n.
use mathlib.Core.Path.{◌∙◌}
use native.Mathlib.Omega.{arith}
use borrow.Author.Tests.{le-leb, lt-leb}
use lib.Count.{ones}
use Rattle.lm_format.proofs.Forms.{shifted_one}
use Rattle.roster.specs.Roster.{quorum}
use Rattle.refusal.proofs.Laws.{first_fails, first_holds, all_one}
use Rattle.submission.specs.Validate.{quorate}
use Rattle.submission_quorums.proofs.mask_quorate.Goals as goal

pub returns-else-quorum-mask : goal.returns-else-quorum-mask
unfolding quorate
returns-else-quorum-mask c =
    let few = lt-leb _ _ c.if-quorum-mask.false in
    few ∙ first_fails _ _ (rw c.quorum.ensures at few)

pub returns-then-quorum-mask : goal.returns-then-quorum-mask
unfolding quorate
returns-then-quorum-mask c =
    let a = c.args in
    rw (shifted_one a.n (omega arith)) (first_holds _ _ (le-leb (quorum a.n) (ones a.mask) (omega arith)) (all_one _))
