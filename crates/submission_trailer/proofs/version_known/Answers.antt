-- The version is the definition's.
use mathlib.Core.Path.{ap}
use Prim.Native.Nat.{ℕ}
use lib.Dec.{eqb}
use Rattle.submission.specs.Validate.{versioned}
use Rattle.submission_trailer.proofs.version_known.Goals as goal

pub returns : goal.returns
unfolding versioned
returns c = ap (λ (n : ℕ). eqb n 1) c.version.ensures
