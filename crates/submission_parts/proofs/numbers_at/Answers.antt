-- Each number is read at its place.
use mathlib.Core.Path.{ap, ◌∙◌}
use Prim.Native.Nat.{ℕ, ◌+◌}
use native.Mathlib.Omega.{arith}
use Rattle.words.specs.BigEndian.{number_at}
use Rattle.submission.specs.Reading.{ballot_size}
use Rattle.submission_parts.proofs.Readings.{numbers_read}
use Rattle.submission_parts.proofs.numbers_at.Goals as goal

pub overflow_add-fields : goal.overflow_add-fields
overflow_add-fields c = omega (arith, c.requires.0, c.ballot_size.ensures.0)

pub u16_at-requires : goal.u16_at-requires
unfolding ballot_size
u16_at-requires c = omega (arith, c.requires.0)

pub number_at-requires : goal.number_at-requires
unfolding ballot_size
number_at-requires c = (omega (arith, c.requires.0), c.requires.2)

pub number_at-requires-2 : goal.number_at-requires-2
unfolding ballot_size
number_at-requires-2 c = (omega (arith, c.requires.0), c.requires.2)

pub u32_at-requires : goal.u32_at-requires
unfolding ballot_size
u32_at-requires c = omega (arith, c.requires.0)

pub u16_at-requires-2 : goal.u16_at-requires-2
u16_at-requires-2 c =
    omega (arith, c.requires.0, c.ballot_size.ensures.0)

pub returns : goal.returns
returns c =
    let a = c.args in
    let fields = c.ballot_size.ensures.0 in
    numbers_read a.width a.s.now a.at c.u16_at.ensures.0
    c.number_at.ensures.0
    c.number_at-2.ensures.0
    c.u32_at.ensures.0
    (c.u16_at-2.ensures.0 ∙ ap (λ (z : ℕ). number_at 2 a.s.now (a.at + z)) fields)
