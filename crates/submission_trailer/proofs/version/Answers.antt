-- The word is that of the definition.
use Rattle.submission.specs.Trailer.{version}
use borrow.Author.Rules.{rules}
use Rattle.submission_trailer.proofs.version.Goals as goal

pub returns : goal.returns
unfolding version
returns c = search rules
