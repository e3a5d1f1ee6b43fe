-- The value of each chain.
use borrow.Author.Rules.{rules}
use Rattle.lm_chain_values.proofs.four_at.Goals as goal

pub returns : goal.returns
returns c = λ l. let h = c.map.ensures l in search rules
