-- The signers before replica k are all of them but those from it on.
use mathlib.Core.Path.{◌≡◌, ap}
use Prim.Native.Nat.{ℕ, ◌+◌, ◌-◌, ◌*◌, ◌/◌, ◌^◌, ◌≤◌}
use native.Mathlib.Nat.{mul-le-mul_left}
use native.Mathlib.Omega.{arith}
use lib.Count.{ones, ones-le}
use Rattle.submission_uses.specs.Signed.{ones_below, signature_place}
use Rattle.submission_uses.proofs.Places.{ones_below_lem}
use Rattle.submission_uses.proofs.signature_place.Goals as goal

few : (size mask j : ℕ) → mask ≤ 65535 → j ≤ ones mask → size * j ≤ size * 16
few size mask j h k = mul-le-mul_left size (omega (arith, k, ones-le 16 mask (omega arith)))

pub overflow_sub-result : goal.overflow_sub-result
overflow_sub-result c = omega (arith, ones_below_lem (c.args.k - 1) c.args.mask)

pub overflow_cast-result : goal.overflow_cast-result
overflow_cast-result c = omega (arith, ones-le 16 c.args.mask (omega arith))

pub overflow_mul-result : goal.overflow_mul-result
overflow_mul-result c =
    let a = c.args in
    omega (arith, few a.size a.mask (ones a.mask - ones (a.mask / 2 ^ (a.k - 1))) (omega arith) (omega arith))

pub overflow_add-result : goal.overflow_add-result
overflow_add-result c =
    let a = c.args in
    omega (arith, few a.size a.mask (ones a.mask - ones (a.mask / 2 ^ (a.k - 1))) (omega arith) (omega arith))

pub returns : goal.returns
unfolding signature_place
returns c =
    let a = c.args in
    let below : ones a.mask - ones (a.mask / 2 ^ (a.k - 1)) ≡ ones_below (a.k - 1) a.mask = omega (arith, ones_below_lem (a.k - 1) a.mask) in
    ap (λ (j : ℕ). a.from + a.size * j) below
