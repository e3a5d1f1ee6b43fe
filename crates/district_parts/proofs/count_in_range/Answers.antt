-- Too few, or as many as the second test says.
use mathlib.Core.Path.{◌∙◌}
use borrow.Author.Tests.{le-leb, lt-leb}
use Rattle.refusal.proofs.Laws.{first_fails, first_holds, all_one}
use Rattle.district_parts.specs.Parts.{counted}
use Rattle.district_parts.proofs.count_in_range.Goals as goal

pub returns-then-lengths-ge-COUNT_LEAST : goal.returns-then-lengths-ge-COUNT_LEAST
unfolding counted
returns-then-lengths-ge-COUNT_LEAST c = first_holds _ _ (le-leb _ _ c.if-lengths-ge-COUNT_LEAST.true) (all_one _)

pub returns-else-lengths-ge-COUNT_LEAST : goal.returns-else-lengths-ge-COUNT_LEAST
unfolding counted
returns-else-lengths-ge-COUNT_LEAST c =
    let few = lt-leb _ _ c.if-lengths-ge-COUNT_LEAST.false in
    few ∙ first_fails _ _ few
