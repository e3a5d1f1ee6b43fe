-- One place a turn, from the last one down: the mask so far is that of the places passed, and has a bit for each.
use mathlib.Core.Path.{◌≡◌}
use mathlib.Core.Bool.{not}
use Prim.Native.Nat.{◌-◌}
use native.Mathlib.Nat.{sub-zero}
use native.Mathlib.Omega.{arith}
use lib.Dec.{eqb}
use lib.ListN.{get_or}
use Rattle.assembly_copies.proofs.Signers.{signers-none, signers-more, bit_most, bits-step, bits_fit}
use Rattle.assembly_copies.proofs.masks.mask_of.Goals as goal

pub loop-k-init : goal.loop-k-init
loop-k-init c =
    let a = c.args in
    let none : a.n - a.n ≡ 0 = omega arith in
    (rw none (omega arith), λ S item_bytes. signers-none S item_bytes a.places.now a.n)

pub overflow_mul-mask : goal.overflow_mul-mask
overflow_mul-mask c =
    let l = c.loop-k in
    omega (arith, bits_fit c.args.n l.k (omega arith) (omega arith) l.mask l.invariant.0 (omega arith))

pub overflow_add-mask : goal.overflow_add-mask
overflow_add-mask c =
    let l = c.loop-k in
    omega (arith, bits_fit c.args.n l.k (omega arith) (omega arith) l.mask l.invariant.0 (omega arith), bit_most (not (eqb (get_or c.args.places.now (l.k - 1) 0) 0)), c.from.ensures)

pub loop-k-preserved : goal.loop-k-preserved
loop-k-preserved c =
    let l = c.loop-k in
    let a = c.args in (
      bits-step a.n l.k (omega arith) (omega arith) l.mask l.invariant.0 (not (eqb (get_or a.places.now (l.k - 1) 0) 0)) c.from.ensures,
      λ S item_bytes. signers-more S item_bytes a.places.now a.n l.k (omega arith) (omega arith) (omega arith) l.mask (l.invariant.1 S item_bytes) c.from.ensures,
    )

pub returns : goal.returns
returns c =
    let l = c.loop-k in
    let end : l.k ≡ 0 = omega arith in
    λ S item_bytes. rw (end, sub-zero) at (l.invariant.1 S item_bytes)
