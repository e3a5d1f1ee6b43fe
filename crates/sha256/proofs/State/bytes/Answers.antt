-- The fields in order are the hash value's words.
use Rattle.sha256.specs.Sha256.{bytes_of, words_of}
use Rattle.sha256.proofs.State.bytes.Goals as goal

pub returns : goal.returns
unfolding bytes_of words_of
returns c = c.bytes_of.ensures
