-- The records have the bytes of the definition.
use native.Mathlib.Omega.{arith}
use Rattle.submission_parts.proofs.Inside.{records-le}
use Rattle.submission_parts.proofs.layout.leaders_from.Goals as goal

pub overflow_mul-result : goal.overflow_mul-result
overflow_mul-result c =
    let few = records-le c.record_size.result c.record_count.result c.record_size.ensures.1
    (rw c.record_count.ensures.0 c.requires.1) in
    omega (arith, few)

pub returns : goal.returns
returns c = rw (c.record_size.ensures.0, c.record_count.ensures.0)
