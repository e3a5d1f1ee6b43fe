-- The message of a step has 55 bytes, so that its digest takes one block.
use Rattle.lm_chain.proofs.Stepped.{step_result}
use Rattle.lm_chain.proofs.step.Goals as goal

pub returns : goal.returns
returns c =
    let a = c.args in
    step_result a.leaf a.i a.j a.t _ _ _ c.absorb.ensures c.new.ensures c.step_block.ensures
