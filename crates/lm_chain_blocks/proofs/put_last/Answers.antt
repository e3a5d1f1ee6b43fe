-- Three words in their places: what the three functions of this shape argue is `three_puts`.
use borrow.Author.Rules.{rules}
use Rattle.lm_chain_blocks.proofs.Blocks.{three_puts}
use Rattle.lm_chain_blocks.proofs.put_last.Goals as goal

pub returns : goal.returns
returns c =
    λ l. three_puts 11 12 13 _ _ _ _
    (c.put.ensures l) (c.joined_lanes.ensures l)
    (c.put-2.ensures l) (c.joined_lanes-2.ensures l)
    (c.put-3.ensures l) (let h = c.map.ensures l in search rules)
