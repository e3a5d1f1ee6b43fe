-- One candidate a turn, from n down.
use mathlib.Core.Path.{◌≡◌, refl, ◌∙◌}
use Prim.Native.Nat.{◌-◌, ◌*◌, ◌≤◌, ◌<◌}
use native.Mathlib.Omega.{arith}
use lib.ListN.{length}
use Rattle.roster.specs.Roster.{head_size, replicas}
use Rattle.roster.proofs.Accepted.{sizes}
use Rattle.assembly_copies.specs.Rows.{taken_size}
use Rattle.assembly_terms.specs.Wanted.{votes_room}
use Rattle.assembly_choice.proofs.Tried.{last_tried, last_none, last_next}
use Rattle.assembly_choice.proofs.try_all.Goals as goal

pub replicas-candidate-requires : goal.replicas-candidate-requires
replicas-candidate-requires c =
    let s = sizes c.args.roster.now c.requires.0.fine in
    let long : head_size ≤ length c.args.roster.now = omega (arith, s.size) in
    long

pub loop-candidate-init : goal.loop-candidate-init
loop-candidate-init c =
    let n = c.replicas-candidate.ensures.0 in (
      omega (arith, n),
      refl,
      refl,
      c.requires.5,
      λ rs all wanted. rw (last_none (replicas c.args.roster.now) c.replicas-candidate.result n) wanted,
      λ rs all wanted stamps tried. rw n tried,
    )

pub try_candidate-requires : goal.try_candidate-requires
try_candidate-requires c =
    let l = c.loop-candidate in
    let p = c.requires in
    let votes : votes_room c.args.terms.width ≤ length l.votes = omega (arith, p.1, l.invariant.1) in
    let taken : taken_size * c.args.terms.count ≤ length l.taken = omega (arith, p.3, l.invariant.2) in
    let some_one : 0 < l.candidate = omega arith in
    (p.0, votes, p.2, some_one, l.invariant.0, taken, p.4, l.invariant.3)

pub loop-candidate-preserved : goal.loop-candidate-preserved
loop-candidate-preserved c =
    let l = c.loop-candidate in
    let n = replicas c.args.roster.now in
    let done = c.try_candidate.ensures in
    let some_one : 0 < l.candidate = omega arith in
    let inside : l.candidate - 1 ≤ n = omega (arith, l.invariant.0) in (
      inside,
      done.rooms.0 ∙ l.invariant.1,
      done.rooms.1 ∙ l.invariant.2,
      done.held,
      λ rs all wanted. rw (last_next n l.candidate some_one l.invariant.0) (done.votes rs (last_tried n l.candidate) all (l.invariant.4 rs all wanted)),
      λ rs all wanted stamps first.
          done.tried rs (last_tried n l.candidate) all (l.invariant.4 rs all wanted) stamps (l.invariant.5 rs all wanted stamps first),
    )

pub shape_of-votes : goal.shape_of-votes
shape_of-votes c = c.loop-candidate.invariant.1

pub shape_of-taken : goal.shape_of-taken
shape_of-taken c = c.loop-candidate.invariant.2

pub returns : goal.returns
returns c =
    let l = c.loop-candidate in
    let n = replicas c.args.roster.now in
    let s = sizes c.args.roster.now c.requires.0.fine in
    let end : l.candidate ≡ 0 = omega arith in
    let one = last_next n 1 (omega arith) (omega (arith, s.low)) in record { votes = λ rs all wanted. rw (end, one) at (l.invariant.4 rs all wanted); tried = λ rs all wanted stamps first. rw end at (l.invariant.5 rs all wanted stamps first); held = l.invariant.3; rooms = (l.invariant.1, l.invariant.2) }
