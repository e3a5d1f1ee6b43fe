-- The first two rotations of the definition, in nested form.
use Rattle.std.proofs.Common.{ℕ, refl, ap}
use lib.Bits.{bit_xor}
use Rattle.sha256_schedule.specs.Words.{σ₀, rotr, shr}
use Rattle.sha256_schedule.proofs.Bitwise.{rotr_nested}
use Rattle.sha256_schedule.proofs.functions.small_sigma0.Goals as goal

pub returns : goal.returns
unfolding σ₀ rotr shr
returns c = let x = c.args.x in
    rw (c.rotate_right-2.ensures, c.rotate_right.ensures) (ap (λ (v : ℕ). bit_xor v (shr 3 x)) (rotr_nested 7 11 14 x refl c.ranges.x.fits))
