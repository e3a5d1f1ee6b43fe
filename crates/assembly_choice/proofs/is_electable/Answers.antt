-- The three tests in order; each answer is the definition's.
use mathlib.Core.Path.{sym, ◌∙◌}
use mathlib.Core.Bool.{false≢true}
use native.Mathlib.Omega.{arith}
use borrow.Author.Tests.{le-leb, lt-leb}
use lib.Count.{ones}
use Rattle.refusal.proofs.Laws.{first_fails, first_holds, all_one}
use Rattle.roster.specs.Roster.{quorum}
use Rattle.assembly_choice.specs.Settled.{electable}
use Rattle.assembly_choice.proofs.is_electable.Goals as goal
use Rattle.assembly_choice.proofs.is_electable.Goals.{then-quorum-mask, else-quorum-mask}

pub returns-then-signer : goal.returns-then-signer
unfolding electable
returns-then-signer c =
    let a = c.args in
    elim c.if-quorum-mask.branch [
      | then-quorum-mask w ↦
          first_holds _ _ (le-leb (quorum a.n) (ones a.mask) (omega arith))
          (first_holds _ _ (sym w.signer.ensures ∙ sym w.value-is ∙ c.if-signer.true) (all_one _))
      | else-quorum-mask w ↦ absurd (false≢true (sym (lt-leb c.quorum.result (ones a.mask) (omega arith)) ∙ sym w.value-is ∙ c.if-signer.true))
    ]

pub returns-else-signer : goal.returns-else-signer
unfolding electable
returns-else-signer c =
    let a = c.args in
    elim c.if-quorum-mask.branch [
      | then-quorum-mask w ↦
          c.if-signer.false
          ∙ first_holds _ _ (le-leb (quorum a.n) (ones a.mask) (omega arith))
          (first_fails _ _ (sym w.signer.ensures ∙ sym w.value-is ∙ c.if-signer.false))
      | else-quorum-mask w ↦ c.if-signer.false ∙ first_fails _ _ (lt-leb (quorum a.n) (ones a.mask) (omega arith))
    ]
