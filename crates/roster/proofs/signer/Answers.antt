-- A mask of sixteen bits has no bit above them; below, the shift is the definition's division.
use Prim.Native.Nat.{◌-◌, ◌^◌, ◌<◌}
use mathlib.Core.Path.{refl}
use native.Mathlib.Nat.{div-eq_of_lt}
use native.Mathlib.Omega.{arith}
use borrow.Author.Tests.{lt-leb}
use lib.Pow.{pow_mono}
use Rattle.roster.specs.Masks.{signer}
use Rattle.roster.proofs.signer.Goals as goal

pub returns-then-k-le-MASK_BITS : goal.returns-then-k-le-MASK_BITS
unfolding signer
returns-then-k-le-MASK_BITS c = refl

pub returns-else-k-le-MASK_BITS : goal.returns-else-k-le-MASK_BITS
unfolding signer
returns-else-k-le-MASK_BITS c =
    let a = c.args in
    let k = a.k in
    let above : a.mask < 2 ^ (k - 1) = omega (arith, pow_mono {i = 16} {j = k - 1} (omega arith)) in
    rw (lt-leb _ _ c.if-k-le-MASK_BITS.false, div-eq_of_lt above)
