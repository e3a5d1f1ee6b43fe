-- One term a turn: the tables have the ends of the terms that the walk has passed, and the others are left.
use mathlib.Core.Path.{refl, ap, ◌∙◌}
use mathlib.Core.List.{[]}
use Prim.Native.Nat.{ℕ}
use native.Mathlib.Omega.{arith}
use lib.ListN.{length-take, length-drop}
use Rattle.log_chain.specs.Log.{with_terms}
use Rattle.log_chain.specs.Records.{records_of}
use Rattle.log_chain.specs.Runs.{runs}
use Rattle.log_chain.proofs.Records.{fewer_inside}
use Rattle.log_terms.specs.Later.{runs_left}
use Rattle.log_terms.proofs.Walks.{runs-all, runs_none}
use Rattle.assembly_terms.proofs.Added.{vote-told, stamp-told, filling_none, filling-over, filling-more, count_room, vote-room, stamp-room}
use Rattle.assembly_terms.proofs.put_ends.Goals as goal

pub loop-end-init : goal.loop-end-init
unfolding records_of
loop-end-init c =
    let a = c.args in
    let begun = c.walk_start-walked.ensures in
    let all = ap (λ (k : ℕ). runs_left a.width a.records k a.log.now) begun.end ∙ runs-all a.width a.records a.log.now in (
      omega arith,
      begun.end,
      rw begun.end (begun.pointed (with_terms a.width [])),
      rw all (filling_none a.width (runs (records_of a.width a.records a.log.now)) a.votes.now a.stamps.now c.requires.4 c.requires.5),
    )

pub next_run-next-requires : goal.next_run-next-requires
next_run-next-requires c =
    let p = c.requires in
    let inv = c.loop-end.invariant in
    (p.0, omega (arith, inv.1, c.loop-end-test.true), p.1, p.2, inv.2)

pub last_term-term-requires : goal.last_term-term-requires
last_term-term-requires c =
    (c.requires.0, fewer_inside c.args.width _ c.args.records c.next_run-next.ensures.ends.1 c.requires.2)

pub put_vote_end-vote-requires : goal.put_vote_end-vote-requires
put_vote_end-vote-requires c =
    let l = c.loop-end in
    let a = c.args in
    let p = c.requires in
    let room = vote-room a.width _ _ _ _ l.votes _ l.vote _ _ l.invariant.3 c.next_run-next.ensures.runs p.3 in (
      p.0,
      omega (arith, l.invariant.0, l.invariant.1, p.1),
      fewer_inside a.width l.walked.end a.records (omega (arith, l.invariant.0, l.invariant.1)) p.2,
      l.invariant.2,
      simp (length-take, length-drop) (omega (arith, room)),
    )

pub overflow_add-vote : goal.overflow_add-vote
overflow_add-vote c =
    let l = c.loop-end in
    let room = vote-room c.args.width _ _ _ _ l.votes _ l.vote _ _ l.invariant.3 c.next_run-next.ensures.runs c.requires.3 in
    omega (arith, room, c.put_vote_end-vote.ensures.size, l.invariant.3.voted.size)

pub put_stamp_end-stamp-requires : goal.put_stamp_end-stamp-requires
put_stamp_end-stamp-requires c =
    let l = c.loop-end in
    let a = c.args in
    let p = c.requires in
    let room = stamp-room a.width _ _ _ _ _ l.stamps _ l.stamp _ l.invariant.3 c.next_run-next.ensures.runs p.3 in (
      p.0,
      omega (arith, c.next_run-next.ensures.ends, l.invariant.0, l.invariant.1, p.1),
      fewer_inside a.width _ a.records (omega (arith, c.next_run-next.ensures.ends, l.invariant.0, l.invariant.1)) p.2,
      search (c.next_run-next.ensures.pointed),
      simp (length-take, length-drop) (omega (arith, room)),
    )

pub overflow_add-stamp : goal.overflow_add-stamp
overflow_add-stamp c =
    let l = c.loop-end in
    let room = stamp-room c.args.width _ _ _ _ _ l.stamps _ l.stamp _ l.invariant.3 c.next_run-next.ensures.runs c.requires.3 in
    omega (arith, room, c.put_stamp_end-stamp.ensures.size, l.invariant.3.stamped.size)

pub overflow_add-count : goal.overflow_add-count
overflow_add-count c =
    let l = c.loop-end in
    let few = count_room c.args.width _ _ _ _ _ _ _ _ l.count l.invariant.3 c.next_run-next.ensures.runs c.requires.3 in
    omega (arith, few)

pub loop-end-preserved : goal.loop-end-preserved
loop-end-preserved c =
    let stamp = c.put_stamp_end-stamp in
    let vote = c.put_vote_end-vote in
    let l = c.loop-end in
    let a = c.args in
    let next = c.next_run-next in
    let before = records_of a.width l.walked.end a.log.now in
    let upto = records_of a.width next.result.end a.log.now in
    let more = filling-more a.width _ _ _ _ l.votes l.stamps l.vote l.stamp l.count l.invariant.3 next.ensures.runs c.requires.3
    vote.new.out stamp.new.out vote.ensures.size stamp.ensures.size
    (vote-told a.width before upto _ c.last_term-term.ensures vote.ensures.bytes) (stamp-told a.width before upto _ stamp.ensures.bytes) in
    (next.ensures.ends.1, refl, next.ensures.pointed, more)

pub shape_of-votes : goal.shape_of-votes
shape_of-votes c = c.loop-end.invariant.3.voted.size

pub shape_of-stamps : goal.shape_of-stamps
shape_of-stamps c = c.loop-end.invariant.3.stamped.size

pub returns : goal.returns
returns c =
    let l = c.loop-end in
    let a = c.args in
    let none = runs_none a.width a.records l.walked.end a.log.now (omega (arith, l.invariant.1, c.loop-end-test.false)) in
    let over = filling-over a.width (runs (records_of a.width a.records a.log.now)) _ a.votes.now a.stamps.now l.votes l.stamps l.vote l.stamp l.count l.invariant.3 none in
    record { count = over.0; votes = over.1; stamps = over.2; rooms = (l.invariant.3.voted.size, l.invariant.3.stamped.size) }
