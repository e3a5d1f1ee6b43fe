-- The word is that of the definition.
use Rattle.submission.specs.Trailer.{distance}
use borrow.Author.Rules.{rules}
use Rattle.submission_trailer.proofs.distance.Goals as goal

pub returns : goal.returns
unfolding distance
returns c = search rules
