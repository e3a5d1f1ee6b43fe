-- A certificate a turn, into the rest of the buffer.
use mathlib.Core.Path.{ap, ◌∙◌}
use Prim.Native.Nat.{◌≤◌, ◌<◌}
use native.Mathlib.Omega.{arith}
use lib.ListN.{length}
use Rattle.assembly_writer.proofs.Joined.{parts_none, part-inside, part_room, part_put, parts_all}
use Rattle.assembly_writer.proofs.Rows.{vote-inside, row_part, certificate_part_lem, row-long, row_first, row-places}
use Rattle.assembly_writer.proofs.put_leaders.Goals as goal

pub loop-t-init : goal.loop-t-init
loop-t-init c = parts_none _ _ _

pub overflow_mul-vote : goal.overflow_mul-vote
overflow_mul-vote c =
    let l = c.loop-t in
    let less : l.t < c.args.plan.leaders = omega arith in
    omega (arith, vote-inside c.args.plan.width c.vote_tail-tail.ensures.0 less c.requires.1)

pub overflow_add-vote : goal.overflow_add-vote
overflow_add-vote c =
    let l = c.loop-t in
    let less : l.t < c.args.plan.leaders = omega arith in
    omega (arith, vote-inside c.args.plan.width c.vote_tail-tail.ensures.0 less c.requires.1)

pub overflow_add-vote_end : goal.overflow_add-vote_end
overflow_add-vote_end c =
    let l = c.loop-t in
    let less : l.t < c.args.plan.leaders = omega arith in
    omega (arith, vote-inside c.args.plan.width c.vote_tail-tail.ensures.0 less c.requires.1)

pub slice_bounds-put_certificate-end : goal.slice_bounds-put_certificate-end
slice_bounds-put_certificate-end c =
    let l = c.loop-t in
    let less : l.t < c.args.plan.leaders = omega arith in
    omega (arith, vote-inside c.args.plan.width c.vote_tail-tail.ensures.0 less c.requires.1)

pub put_certificate-size-requires : goal.put_certificate-size-requires
put_certificate-size-requires c =
    let l = c.loop-t in
    let a = c.args in
    let held = c.requires.0 in
    let less : l.t < a.plan.leaders = omega arith in
    let within : l.t ≤ a.plan.leaders = omega arith in
    let row = row_part a.taken.now l.t in (
      rw row (row-places held l.t within),
      rw row (omega (arith, row-long held l.t within)),
      rw row (row_first held l.t within less),
      rw (certificate_part_lem a.items.now a.votes.now a.taken.now a.plan _ l.t c.vote_tail-tail.ensures.0)
          (part_room _ _ _ c.requires.2 l.invariant less),
    )

pub overflow_add-at : goal.overflow_add-at
overflow_add-at c =
    let l = c.loop-t in
    let a = c.args in
    let less : l.t < a.plan.leaders = omega arith in
    let part = certificate_part_lem a.items.now a.votes.now a.taken.now a.plan _ l.t c.vote_tail-tail.ensures.0 in
    omega (arith, part-inside _ _ _ c.requires.2 l.invariant less, c.put_certificate-size.ensures.size ∙ ap length part)

pub loop-t-preserved : goal.loop-t-preserved
loop-t-preserved c =
    let l = c.loop-t in
    let a = c.args in
    let less : l.t < a.plan.leaders = omega arith in
    let part = certificate_part_lem a.items.now a.votes.now a.taken.now a.plan _ l.t c.vote_tail-tail.ensures.0 in
    let e = rw part at c.put_certificate-size.ensures in
    part_put _ _ _ c.requires.2 l.invariant less e.size e.bytes

pub shape_of-out : goal.shape_of-out
shape_of-out c = c.loop-t.invariant.2

pub returns : goal.returns
returns c = let it = parts_all _ _ _ c.loop-t.invariant (omega arith) in record { size = it.0; bytes = it.1 }
