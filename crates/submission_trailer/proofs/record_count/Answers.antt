-- The word is that of the definition.
use Rattle.submission.specs.Trailer.{record_count}
use borrow.Author.Rules.{rules}
use Rattle.submission_trailer.proofs.record_count.Goals as goal

pub returns : goal.returns
unfolding record_count
returns c = search rules
