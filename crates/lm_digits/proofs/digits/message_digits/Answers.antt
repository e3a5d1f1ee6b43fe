-- The quotient is appendix B's, and at most 256.
use mathlib.Core.Path.{refl}
use Rattle.lm_digits.specs.Parameters.{message_digits}
use Rattle.lm_digits.proofs.digits.message_digits.Goals as goal

pub returns : goal.returns
unfolding message_digits
returns c = refl
