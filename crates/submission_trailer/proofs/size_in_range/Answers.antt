-- The first test that fails decides, or else the last.
use mathlib.Core.Path.{◌∙◌}
use borrow.Author.Tests.{le-leb, lt-leb}
use Rattle.refusal.proofs.Laws.{first_fails, first_holds, all_one}
use Rattle.submission.specs.Validate.{sized}
use Rattle.submission_trailer.proofs.size_in_range.Goals as goal

pub returns-else-s-ge-TRAILER_SIZE : goal.returns-else-s-ge-TRAILER_SIZE
unfolding sized
returns-else-s-ge-TRAILER_SIZE c = let short = lt-leb _ _ c.if-s-ge-TRAILER_SIZE.false in short ∙ first_fails _ _ short

pub returns-then-s-ge-TRAILER_SIZE : goal.returns-then-s-ge-TRAILER_SIZE
unfolding sized
returns-then-s-ge-TRAILER_SIZE c = first_holds _ _ (le-leb _ _ c.if-s-ge-TRAILER_SIZE.true) (all_one _)
