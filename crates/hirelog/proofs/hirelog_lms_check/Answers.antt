-- The number, the leaf and the chain steps of the check's answer, of which the claim on the steps holds.
use mathlib.Core.Path.{ap, ◌∙◌}
use Rattle.lm_answer.specs.declared.LmsAnswer.{LmsAnswer}
use Rattle.lm_answer.specs.Number.{answer_number, answer_leaf, answer_steps}
use Rattle.lms.proofs.Steps.{steps-counted}
use Rattle.hirelog.proofs.hirelog_lms_check.Goals as goal

pub returns : goal.returns
returns c =
    let a = c.args in
    let e = c.check.ensures in
    let told = c.from.ensures in
    let count = ap (λ (t : LmsAnswer). t.steps) told ∙ ap answer_steps e in record {
      number = ap (λ (t : LmsAnswer). t.number) told ∙ ap answer_number e;
      leaf = ap (λ (t : LmsAnswer). t.leaf) told ∙ ap answer_leaf e;
      steps = count;
      counted = rw count (steps-counted a.key.now a.message.now a.signature.now);
    }
