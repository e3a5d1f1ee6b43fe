-- The word of each lane.
use borrow.Author.Rules.{rules}
use Rattle.lm_chain_blocks.proofs.firsts.Goals as goal

pub returns : goal.returns
returns c = λ l. let h = rw (c.zip-2.ensures l, c.zip.ensures l) at (c.map.ensures l) in search rules
