-- Each call's promise, put together.
-- Eight calls, so that the needs are listed as in a group of rounds; what they show is not the same.
use Rattle.sha256.specs.Sha256.{plus}
use Rattle.sha256.proofs.State.plus.Goals as goal

pub returns : goal.returns
unfolding plus
returns c =
    simp (c.add-8.ensures, c.add-7.ensures, c.add-6.ensures, c.add-5.ensures, c.add-4.ensures, c.add-3.ensures, c.add-2.ensures, c.add.ensures)
