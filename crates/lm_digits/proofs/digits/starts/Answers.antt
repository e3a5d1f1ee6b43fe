-- One digit a turn.
use Prim.Native.Nat.{◌^◌}
use mathlib.Core.Path.{refl}
use native.Mathlib.Omega.{arith}
use lib.Pow.{pow_pos}
use Rattle.lm_digits.proofs.Counting.{all-zero}
use Rattle.lm_digits.proofs.digits.starts.Goals as goal

pub loop-i-init : goal.loop-i-init
loop-i-init c = (refl, λ k h. absurd (omega arith), all-zero 265 (2 ^ c.args.bits) (pow_pos c.args.bits))
