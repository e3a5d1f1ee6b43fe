-- The eight words of the value.
use Rattle.sha256.specs.Sha256.{bytes_of, words_of}
use Rattle.lm_chain_values.proofs.Buffers.{value_words}
use Rattle.lm_chain_values.proofs.value_at.Goals as goal

pub returns : goal.returns
unfolding bytes_of words_of
returns c =
    value_words c.args.v.now c.args.i c.requires
