-- Each call's promise, put together.
use Rattle.sha256.specs.Sha256.{round}
use Rattle.sha256.proofs.State.round_from.Goals as goal

pub returns : goal.returns
unfolding round
returns c =
    simp (
      c.add-2.ensures,
      c.add.ensures,
      c.temp2-t2.ensures,
      c.temp1-t1.ensures,
    )
