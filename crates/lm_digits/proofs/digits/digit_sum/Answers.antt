-- One digit a turn, and the sum of at most 265 digits fits.
use native.Mathlib.Numerals.{add-one}
use native.Mathlib.Omega.{arith}
use Rattle.lm_digits.specs.Digits.{to_largest, sum}
use Rattle.lm_digits.proofs.Widths.{pow-le, shifted_one}
use Rattle.lm_digits.proofs.Figures.{sum_small}
use Rattle.lm_digits.proofs.digits.digit_sum.Goals as goal

pub overflow_add-total : goal.overflow_add-total
overflow_add-total c =
    let whole = c.requires.0 in
    let a = c.args in
    let l = c.loop-i in
    omega (arith, c.requires.2, pow-le _ whole, sum_small _ whole a.s.now l.i)

pub loop-i-preserved : goal.loop-i-preserved
unfolding sum to_largest
loop-i-preserved c =
    let l = c.loop-i in
    rw add-one (omega (arith, shifted_one _ c.requires.0, l.invariant, c.digit.ensures.0))
