-- The first two rotations of the definition, in nested form.
use Rattle.std.proofs.Common.{ℕ, refl, ap}
use lib.Bits.{bit_xor}
use Rattle.sha256_schedule.specs.Words.{Σ₀, rotr, shr}
use Rattle.sha256_schedule.proofs.Bitwise.{rotr_nested}
use Rattle.sha256_schedule.proofs.functions.big_sigma0.Goals as goal

pub returns : goal.returns
unfolding Σ₀ rotr shr
returns c = let x = c.args.x in
    rw (c.rotate_right-2.ensures, c.rotate_right-3.ensures, c.rotate_right.ensures) (ap (λ (v : ℕ). bit_xor v (rotr 22 x)) (rotr_nested 2 11 19 x refl c.ranges.x.fits))
