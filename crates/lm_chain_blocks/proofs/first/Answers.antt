-- Numbers that fit their bytes.
use borrow.Author.Rules.{rules}
use Rattle.lm_chain_blocks.specs.Block.{first_word}
use Rattle.lm_chain_blocks.proofs.first.Goals as goal

pub returns : goal.returns
unfolding first_word
returns c = search rules
