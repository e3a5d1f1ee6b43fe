-- The fields of a vote, one after the other.
use native.Mathlib.Omega.{arith}
use Rattle.submission.specs.Reading.{ballot_size}
use Rattle.submission.proofs.ballot_size.Goals as goal

pub returns : goal.returns
unfolding ballot_size
returns c = (omega arith, omega arith)
