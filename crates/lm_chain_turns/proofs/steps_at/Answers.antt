-- The step of each lane's chain.
use Rattle.std.proofs.Common.{rules}
use Rattle.lm_chain_turns.proofs.steps_at.Goals as goal

pub returns : goal.returns
returns c = λ l. let h = c.map.ensures l in search rules
