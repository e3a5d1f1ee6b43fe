-- The schedule, the rounds with the table's constants and the sum, put together.
use mathlib.Core.Path.{refl}
use Rattle.sha256_tables.specs.Constants.{constants}
use Rattle.sha256.specs.Sha256.{compress}
use Rattle.sha256.proofs.State.absorb.Goals as goal

-- the code's table is the definition's
pub rounds-requires : goal.rounds-requires
unfolding constants
rounds-requires c = refl

pub returns : goal.returns
unfolding compress
returns c =
    simp (c.plus.ensures, c.rounds.ensures, c.schedule-w.ensures)
