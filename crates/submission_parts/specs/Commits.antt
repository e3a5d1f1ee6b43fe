-- Part 4 of a submission, as its reader gives it (document 01, "A submission, read from its trailer").
use Rattle.std.specs.Prelude.{cond, List, ℕ, eqb, Option, Some, None}
use Rattle.std.proofs.Math.Option as view_option
use Rattle.std.proofs.Math.Option.{some, none}
use Rattle.submission.specs.Trailer.{distance}
use Rattle.submission.specs.View as view
use Rattle.submission.specs.Reading.{commit_from}
use Rattle.submission_parts.specs.Reader.{commit_numbers_at}
use Rattle.submission_parts.specs.declared.Commit.{Commit}

-- the numbers and the place of the commit certificate, where there is one
unfoldable pub commit_part : ℕ → ℕ → List ℕ → Option (Commit × ℕ)
commit_part w S s =
    let at = commit_from w S s in
    cond (eqb (distance s 4) 0) None (Some (commit_numbers_at s at, at))

-- the index of the commit certificate, 0 where there is none
unfoldable pub commit_index : view_option.Option view.Commit → ℕ
commit_index none = 0
commit_index (some c) = c.index
