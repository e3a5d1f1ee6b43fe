-- A stamp a turn, into the rest of the buffer.
use Prim.Native.Nat.{◌<◌}
use native.Mathlib.Omega.{arith}
use Rattle.assembly_writer.proofs.Joined.{parts_none, part-inside, part_room, part_put, parts_all}
use Rattle.assembly_writer.proofs.put_stamps.Goals as goal

pub loop-t-init : goal.loop-t-init
loop-t-init c = parts_none _ _ _

pub put_signature-at-requires : goal.put_signature-at-requires
put_signature-at-requires c =
    let l = c.loop-t in
    let less : l.t < c.args.plan.leaders = omega arith in
    (c.requires.0.inside l.t 1 (omega arith) (omega arith) (omega arith), part_room _ _ _ c.requires.1 l.invariant less)

pub overflow_add-at : goal.overflow_add-at
overflow_add-at c =
    let l = c.loop-t in
    let less : l.t < c.args.plan.leaders = omega arith in
    omega (arith, part-inside _ _ _ c.requires.1 l.invariant less, c.put_signature-at.ensures.size)

pub loop-t-preserved : goal.loop-t-preserved
loop-t-preserved c =
    let l = c.loop-t in
    let less : l.t < c.args.plan.leaders = omega arith in
    part_put _ _ _ c.requires.1 l.invariant less c.put_signature-at.ensures.size c.put_signature-at.ensures.bytes

pub shape_of-out : goal.shape_of-out
shape_of-out c = c.loop-t.invariant.2

pub returns : goal.returns
returns c = let it = parts_all _ _ _ c.loop-t.invariant (omega arith) in record { size = it.0; bytes = it.1 }
