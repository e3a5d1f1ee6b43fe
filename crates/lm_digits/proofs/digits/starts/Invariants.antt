-- One digit a turn.
use Prim.Native.Nat.{ℕ, ◌^◌, ◌<◌}
use mathlib.Core.Path.{◌≡◌}
use lib.ListN.{length, get_or}
use Rattle.lm_digits.specs.Digits.{coef}
use Rattle.lm_digits.proofs.digits.starts.Given as goal

abbrev pub invariant-loop-i : goal.invariant-loop-i
invariant-loop-i l = (length l.d ≡ 265) × ((k : ℕ) → k < l.i → get_or l.d k 0 ≡ coef l.bits l.s k) × ((k : ℕ) → get_or l.d k 0 < 2 ^ l.bits)
