-- The fields one after the other.
use mathlib.Core.Path.{◌∙◌}
use Rattle.replica.specs.Replica.{same_request}
use Rattle.forensics_charges.specs.Rules.{vote_of}
use Rattle.forensics_charges.proofs.Broken.{fields_same}
use Rattle.forensics_charges.proofs.rules.same_request.Goals as goal

pub returns : goal.returns
unfolding same_request vote_of
returns c = c.eq.ensures ∙ fields_same _ _ _ _ _
