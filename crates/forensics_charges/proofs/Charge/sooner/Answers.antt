-- The order of ranks and terms.
use mathlib.Core.Path.{◌∙◌}
use Rattle.forensics.specs.Findings.{sooner}
use Rattle.forensics_charges.specs.Charges.{meaning}
use Rattle.forensics_charges.proofs.Charge.sooner.Goals as goal

pub returns : goal.returns
unfolding sooner meaning
returns c = c.end_staler.ensures ∙ rw (c.rank.ensures, c.rank-2.ensures)
