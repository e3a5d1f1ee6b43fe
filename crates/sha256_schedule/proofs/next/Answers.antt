-- Each call's promise, put together.
-- Three calls of functions on words, with the needs of any three.
use Rattle.sha256_schedule.proofs.next.Goals as goal

pub returns : goal.returns
returns c =
    simp (
      c.add_four.ensures,
      c.small_sigma0.ensures,
      c.small_sigma1.ensures,
    )
