-- Two rotations and a shift as one chain of shifts.
use mathlib.Core.Path.{refl, ap}
use Prim.Native.Nat.{ℕ}
use lib.Bits.{bit_xor}
use Rattle.sha256.specs.Sha256.{σ₀, shr}
use Rattle.sha256_lane_words.proofs.Rotations.{crossed}
use Rattle.sha256_lane_words.proofs.functions.small_sigma0.Goals as goal

pub returns : goal.returns
unfolding σ₀ shr
returns c = let x = c.args.x in ap (λ (v : ℕ). bit_xor v (shr 3 x)) (crossed x c.ranges.x.fits 7 25 18 14 refl refl)
