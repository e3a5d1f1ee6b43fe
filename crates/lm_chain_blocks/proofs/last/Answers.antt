-- The definition's own sum.
use mathlib.Core.Path.{refl}
use Rattle.lm_chain_blocks.specs.Block.{last_word}
use Rattle.lm_chain_blocks.proofs.last.Goals as goal

pub returns : goal.returns
unfolding last_word
returns c = refl
