-- Three rotations as one chain of shifts.
use mathlib.Core.Path.{refl, ap, ◌∙◌}
use Prim.Native.Nat.{ℕ}
use lib.Bits.{bit_xor}
use Rattle.sha256.specs.Sha256.{Σ₁, rotr}
use Rattle.sha256_lane_words.proofs.Rotations.{and-rotr, crossed, crossed-fits}
use Rattle.sha256_lane_words.proofs.functions.big_sigma1.Goals as goal

pub returns : goal.returns
unfolding Σ₁
returns c =
    let x = c.args.x in
    let fits = c.ranges.x.fits in
    and-rotr x fits 25 7 _ refl (crossed-fits x fits 6 26 11 21) ∙ ap (λ (v : ℕ). bit_xor v (rotr 25 x)) (crossed x fits 6 26 11 21 refl refl)
