-- As many signatures as the mask has ones.
use native.Mathlib.Omega.{arith}
use Rattle.assembly_writer.proofs.Lengths.{ones-few, ones_small, ones_signed}
use Rattle.assembly_writer.proofs.sizes.signed_size.Goals as goal

pub overflow_cast-count : goal.overflow_cast-count
overflow_cast-count c =
    let a = c.args in
    omega (arith, ones-few a.size a.n a.places.now c.mask_of.ensures c.requires.1 c.requires.2)

pub overflow_mul-result : goal.overflow_mul-result
overflow_mul-result c =
    let a = c.args in
    omega (arith, ones_small a.size a.n a.places.now c.mask_of.ensures c.requires.0 c.requires.1 c.requires.2)

pub overflow_add-result : goal.overflow_add-result
overflow_add-result c =
    let a = c.args in
    omega (arith, ones_small a.size a.n a.places.now c.mask_of.ensures c.requires.0 c.requires.1 c.requires.2)

pub returns : goal.returns
returns c =
    let a = c.args in record { size = ones_signed a.size a.n a.places.now c.mask_of.ensures; most = omega (arith, ones_small a.size a.n a.places.now c.mask_of.ensures c.requires.0 c.requires.1 c.requires.2) }
