-- The keys of the replicas before k are asked for, one after the other.
use Rattle.std.proofs.Common.{rules}
use Rattle.roster.specs.Roster.{single}
use Rattle.roster_checks.proofs.keys.single.Goals as goal

pub returns : goal.returns
unfolding single
returns c = c.every_replica.ensures _ (λ j b e. search rules)
