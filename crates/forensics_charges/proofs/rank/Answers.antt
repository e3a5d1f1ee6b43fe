-- Rule 2 is the first; any other is a place behind its number.
use mathlib.Core.Path.{sym, ap, ◌∙◌}
use native.Mathlib.Omega.{arith}
use Rattle.forensics.specs.Findings.{rank}
use Rattle.forensics.proofs.Order.{rank_two, rank-other}
use Rattle.forensics_charges.proofs.rank.Goals as goal

pub returns-then-rule : goal.returns-then-rule
returns-then-rule c = sym (ap rank c.if-rule.true ∙ rank_two)

pub returns-else-rule : goal.returns-else-rule
returns-else-rule c = omega (arith, rank-other _ c.if-rule.false)
