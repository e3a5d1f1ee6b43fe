-- One signature for each of the signers, the ones among sixteen bits.
use mathlib.Core.Path.{refl}
use native.Mathlib.Omega.{arith}
use lib.Count.{ones-le}
use Rattle.submission.specs.Reading.{certificate_end}
use Rattle.submission_parts.proofs.Readings.{ends_at}
use Rattle.submission_parts.proofs.certificate_end.Goals as goal

pub overflow_add-fields : goal.overflow_add-fields
unfolding certificate_end
overflow_add-fields c = omega arith

pub u16_at-signers-requires : goal.u16_at-signers-requires
unfolding certificate_end
u16_at-signers-requires c = omega (arith, c.requires.1, c.ballot_size.ensures.0)

pub overflow_add-result : goal.overflow_add-result
unfolding certificate_end
overflow_add-result c = omega (arith, c.requires.1, c.ballot_size.ensures.0)

pub overflow_cast-result : goal.overflow_cast-result
overflow_cast-result c = omega (arith, ones-le 16 c.u16_at-signers.result c.u16_at-signers.ensures.1)

pub overflow_mul-result : goal.overflow_mul-result
overflow_mul-result c =
    let a = c.args in
    let end = ends_at a.width a.size a.at _ _ _ a.s.now c.ballot_size.ensures.0 c.u16_at-signers.ensures.0 refl in
    omega (arith, end, c.requires.1)

pub overflow_add-result-2 : goal.overflow_add-result-2
overflow_add-result-2 c =
    let a = c.args in
    let end = ends_at a.width a.size a.at _ _ _ a.s.now c.ballot_size.ensures.0 c.u16_at-signers.ensures.0 refl in
    omega (arith, end, c.requires.1)

pub returns : goal.returns
returns c =
    let a = c.args in
    ends_at a.width a.size a.at _ _ _ a.s.now c.ballot_size.ensures.0 c.u16_at-signers.ensures.0 refl
