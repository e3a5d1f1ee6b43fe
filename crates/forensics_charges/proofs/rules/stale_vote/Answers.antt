-- The terms first, and then the logs.
use mathlib.Core.Path.{◌∙◌}
use borrow.Author.Tests.{lt-ltb, le-ltb}
use Rattle.refusal.proofs.Laws.{first_fails, first_holds, all_one}
use Rattle.forensics_charges.proofs.rules.stale_vote.Goals as goal

pub returns-then-given-y : goal.returns-then-given-y
returns-then-given-y c = c.end_staler.ensures ∙ first_holds _ _ (lt-ltb _ _ c.if-given-y.true) (all_one _)

pub returns-else-given-y : goal.returns-else-given-y
returns-else-given-y c =
    le-ltb _ _ c.if-given-y.false ∙ first_fails _ _ (le-ltb _ _ c.if-given-y.false)
