-- Three words in their places: what the three functions of this shape argue is `three_puts`.
use Rattle.lm_chain_blocks.proofs.Blocks.{three_puts}
use Rattle.lm_chain_blocks.proofs.put_middle.Goals as goal

pub returns : goal.returns
returns c =
    λ l. three_puts 8 9 10 _ _ _ _
    (c.put.ensures l) (c.joined_lanes.ensures l)
    (c.put-2.ensures l) (c.joined_lanes-2.ensures l)
    (c.put-3.ensures l) (c.joined_lanes-3.ensures l)
