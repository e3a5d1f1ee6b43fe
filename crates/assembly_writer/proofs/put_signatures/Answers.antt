-- A signature a turn, into the rest of the buffer.
use Prim.Native.Nat.{◌<◌}
use native.Mathlib.Omega.{arith}
use Rattle.assembly_copies.specs.Rows.{Placed}
use Rattle.assembly_writer.proofs.Joined.{parts_none, part-inside, part_room, part_put, parts_all}
use Rattle.assembly_writer.proofs.put_signatures.Goals as goal

pub loop-k-init : goal.loop-k-init
loop-k-init c = parts_none _ _ _

pub put_signature-at-requires : goal.put_signature-at-requires
unfolding Placed
put_signature-at-requires c =
    let l = c.loop-k in
    (c.requires.0.inside l.k (omega arith), part_room _ _ _ c.requires.1 l.invariant (omega arith))

pub overflow_add-at : goal.overflow_add-at
overflow_add-at c =
    let l = c.loop-k in
    let less : l.k < c.args.n = omega arith in
    omega (arith, part-inside _ _ _ c.requires.1 l.invariant less, c.put_signature-at.ensures.size)

pub loop-k-preserved : goal.loop-k-preserved
loop-k-preserved c =
    let l = c.loop-k in
    part_put _ _ _ c.requires.1 l.invariant (omega arith) c.put_signature-at.ensures.size c.put_signature-at.ensures.bytes

pub shape_of-out : goal.shape_of-out
shape_of-out c = c.loop-k.invariant.2

pub returns : goal.returns
returns c = let it = parts_all _ _ _ c.loop-k.invariant (omega arith) in record { size = it.0; bytes = it.1 }
