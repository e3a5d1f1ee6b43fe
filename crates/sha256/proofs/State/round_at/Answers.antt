-- One round with the constant and the word at a place.
use Rattle.sha256.specs.Sha256.{rounds}
use Rattle.sha256.proofs.State.round_at.Goals as goal

pub returns : goal.returns
unfolding rounds
returns c = simp (c.round.ensures, c.requires.1)
