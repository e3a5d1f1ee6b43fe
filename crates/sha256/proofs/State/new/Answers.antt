-- The eight words are the definition's.
use Rattle.sha256.specs.Sha256.{initial}
use Rattle.sha256_tables.specs.Constants.{initial_words}
use mathlib.Core.Path.{refl}
use Rattle.sha256.proofs.State.new.Goals as goal

pub returns : goal.returns
unfolding initial initial_words
returns c = refl
