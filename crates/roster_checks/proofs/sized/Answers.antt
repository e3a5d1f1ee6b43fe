-- The tests are those of the definition, in its order.
use native.Mathlib.Omega.{arith}
use Rattle.std.proofs.lemmas.Grind.{common_steps}
use Rattle.refusal.specs.Checks.{all}
use Rattle.roster.specs.Roster.{sized}
use Rattle.roster_checks.proofs.sized.Goals as goal

pub returns-then-roster-lt-HEAD_SIZE : goal.returns-then-roster-lt-HEAD_SIZE
unfolding sized all
returns-then-roster-lt-HEAD_SIZE c = grind (arith, common_steps)

pub returns-then-not-contains : goal.returns-then-not-contains
unfolding sized all
returns-then-not-contains c = grind (arith, common_steps)

pub returns-then-roster-n : goal.returns-then-roster-n
unfolding sized all
returns-then-roster-n c = grind (arith, common_steps)

pub returns : goal.returns
unfolding sized all
returns c = grind (arith, common_steps)
