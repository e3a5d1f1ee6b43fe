-- Each call's promise, put together.
use Rattle.sha256.specs.Sha256.{temp₁}
use Rattle.sha256.proofs.State.temp1.Goals as goal

pub returns : goal.returns
unfolding temp₁
returns c =
    simp (
      c.add.ensures,
      c.add_four.ensures,
      c.choose-chosen.ensures,
      c.requires,
    )
