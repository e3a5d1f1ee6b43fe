-- The fields of the next certificate lie inside.
use native.Mathlib.Omega.{arith}
use Rattle.submission.specs.Reading.{ballot_size}
use Rattle.submission_signatures.proofs.stamps.stamp_before.Goals as goal

pub u32_at-requires : goal.u32_at-requires
unfolding ballot_size
u32_at-requires c = omega arith

pub value_at-requires : goal.value_at-requires
unfolding ballot_size
value_at-requires c = omega arith
