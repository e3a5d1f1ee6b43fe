-- The quotient by the count of digits in a byte is the digit's byte, and the rest its place there.
use mathlib.Core.Path.{refl}
use Rattle.lm_digits.specs.Digits.{coef}
use Rattle.lm_digits.proofs.Widths.{shifted_one, digit-byte}
use Rattle.lm_digits.proofs.Figures.{digit_lt}
use Rattle.lm_digits.proofs.digits.digit.Goals as goal

pub bounds-s-at : goal.bounds-s-at
bounds-s-at c =
    rw (← digit-byte _ c.requires.0 c.args.i) c.requires.1

pub returns : goal.returns
unfolding coef
returns c =
    let a = c.args in
    let whole = c.requires.0 in
    rw (shifted_one a.bits whole, c.from.ensures, ← digit-byte a.bits whole a.i) (refl, digit_lt a.bits a.s.now a.i)
