-- One place after the other.
use native.Mathlib.Omega.{arith}
use lib.ListN.{length-set}
use Rattle.lm_chain_turns.proofs.Walks.{set_four}
use Rattle.lm_chain_turns.proofs.put_steps.Goals as goal

pub bounds-steps-i-2 : goal.bounds-steps-i-2
bounds-steps-i-2 c = simp length-set (omega arith)

pub bounds-steps-i-3 : goal.bounds-steps-i-3
bounds-steps-i-3 c = simp length-set (omega arith)

pub bounds-steps-i-4 : goal.bounds-steps-i-4
bounds-steps-i-4 c = simp length-set (omega arith)

pub shape_of-steps : goal.shape_of-steps
shape_of-steps c = simp length-set

pub returns : goal.returns
returns c =
    let a = c.args in
    let p = c.requires in
    set_four a.steps.now a.i.0 a.i.1 a.i.2 a.i.3 _ _ _ _ p.0 p.1 p.2 p.3
