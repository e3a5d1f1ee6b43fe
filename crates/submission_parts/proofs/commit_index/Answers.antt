-- The index is the definition's.
use mathlib.Core.Path.{sym, ◌∙◌}
use Rattle.submission.specs.Reading.{commit_at}
use Rattle.submission_parts.specs.Reader.{commit_numbers_at}
use Rattle.submission_parts.specs.Commits.{commit_index}
use Rattle.submission_parts.proofs.Commits.{absent-says, found-says}
use Rattle.submission_parts.proofs.commit_index.Goals as goal

pub returns-in_default : goal.returns-in_default
unfolding commit_index
returns-in_default c = rw (absent-says _ _ _ (sym c.commit_part.ensures ∙ c.in_default.is))

pub returns : goal.returns
unfolding commit_index commit_numbers_at commit_at
returns c =
    let told = found-says _ _ _ (sym c.commit_part.ensures ∙ c.in-Some.is) in
    rw (told.2, told.0)
