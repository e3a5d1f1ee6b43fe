-- Each call's promise, put together.
-- Three calls of functions on words, with the needs of any three.
use Rattle.sha256_schedule.proofs.functions.add_four.Goals as goal

pub returns : goal.returns
returns c =
    simp (
      c.add-3.ensures,
      c.add-2.ensures,
      c.add.ensures,
    )
