-- The tests are those of the definition, in its order.
use native.Mathlib.Omega.{arith}
use Rattle.std.proofs.lemmas.Grind.{common_steps}
use Rattle.refusal.specs.Checks.{all}
use Rattle.roster.specs.Roster.{typed}
use Rattle.roster_checks.proofs.typed.Goals as goal

pub returns-then-contains : goal.returns-then-contains
unfolding typed all
returns-then-contains c = grind (arith, common_steps)

pub returns-else-contains : goal.returns-else-contains
unfolding typed all
returns-else-contains c = grind (arith, common_steps)
