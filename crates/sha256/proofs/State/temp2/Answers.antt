-- Each call's promise, put together.
use Rattle.sha256.specs.Sha256.{temp₂}
use Rattle.sha256.proofs.State.temp2.Goals as goal

pub returns : goal.returns
unfolding temp₂
returns c =
    simp (
      c.add.ensures,
      c.majority.ensures,
      c.requires,
    )
