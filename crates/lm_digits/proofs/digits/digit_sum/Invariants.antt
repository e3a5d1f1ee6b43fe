-- One digit a turn, and the sum of at most 265 digits fits.
use mathlib.Core.Path.{◌≡◌}
use Rattle.lm_digits.specs.Digits.{sum}
use Rattle.lm_digits.proofs.digits.digit_sum.Given as goal

abbrev pub invariant-loop-i : goal.invariant-loop-i
invariant-loop-i l = l.total ≡ sum l.bits l.s l.i
