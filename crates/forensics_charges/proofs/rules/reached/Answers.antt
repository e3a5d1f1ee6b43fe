-- Each test that fails ends it, and the last decides.
use mathlib.Core.Path.{◌∙◌}
use borrow.Author.Tests.{le-leb, lt-leb}
use Rattle.refusal.proofs.Laws.{first_fails, first_holds, all_one}
use Rattle.forensics_charges.specs.Rules.{reached}
use Rattle.forensics_charges.proofs.rules.reached.Goals as goal

pub returns-then-index-x : goal.returns-then-index-x
unfolding reached
returns-then-index-x c = rw c.in-Some.is (first_holds _ _ (le-leb _ _ c.if-index-x.true) (all_one _))

pub returns-else-index-x : goal.returns-else-index-x
unfolding reached
returns-else-index-x c =
    rw c.in-Some.is (lt-leb _ _ c.if-index-x.false ∙ first_fails _ _ (lt-leb _ _ c.if-index-x.false))

pub returns-in-None : goal.returns-in-None
unfolding reached
returns-in-None c = rw c.in-None.is
