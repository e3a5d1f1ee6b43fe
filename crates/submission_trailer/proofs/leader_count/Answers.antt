-- The word is that of the definition.
use Rattle.submission.specs.Trailer.{leader_count}
use borrow.Author.Rules.{rules}
use Rattle.submission_trailer.proofs.leader_count.Goals as goal

pub returns : goal.returns
unfolding leader_count
returns c = search rules
