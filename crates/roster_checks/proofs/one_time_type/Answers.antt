-- The number is read in the key of the definition.
use mathlib.Core.Path.{ap, ◌∙◌}
use Rattle.roster.specs.Roster.{one_time_type}
use Rattle.roster_checks.proofs.one_time_type.Goals as goal

pub returns : goal.returns
unfolding one_time_type
returns c = c.u32_at.ensures.0 ∙ ap one_time_type c.key_of.ensures.0
