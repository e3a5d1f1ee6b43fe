-- Three rotations as one chain of shifts.
use mathlib.Core.Path.{refl, ap, ◌∙◌}
use Prim.Native.Nat.{ℕ}
use lib.Bits.{bit_xor}
use Rattle.sha256.specs.Sha256.{Σ₀, rotr}
use Rattle.sha256_lane_words.proofs.Rotations.{and-rotr, crossed, crossed-fits}
use Rattle.sha256_lane_words.proofs.functions.big_sigma0.Goals as goal

pub returns : goal.returns
unfolding Σ₀
returns c =
    let x = c.args.x in
    let fits = c.ranges.x.fits in
    and-rotr x fits 22 10 _ refl (crossed-fits x fits 2 30 13 19) ∙ ap (λ (v : ℕ). bit_xor v (rotr 22 x)) (crossed x fits 2 30 13 19 refl refl)
