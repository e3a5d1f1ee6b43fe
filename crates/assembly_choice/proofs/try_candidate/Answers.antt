-- The votes are found, and each row settled from them.
use mathlib.Core.Path.{◌≡◌, sym, ◌∙◌}
use Prim.Native.Nat.{ℕ, ◌*◌, ◌≤◌, ◌<◌}
use native.Mathlib.Omega.{arith}
use lib.ListN.{length, length-replicate}
use Rattle.roster.specs.Roster.{head_size, replicas}
use Rattle.roster.proofs.Accepted.{sizes}
use Rattle.roster.specs.Sizes.{replicas_most}
use Rattle.assembly_choice.proofs.Tried.{tried-next, held_next}
use Rattle.assembly_choice.proofs.try_candidate.Goals as goal

pub slice_bounds-find_votes-end : goal.slice_bounds-find_votes-end
slice_bounds-find_votes-end c = sym (length-replicate {A = ℕ} 576 0)

pub find_votes-requires : goal.find_votes-requires
find_votes-requires c =
    let p = c.requires in
    let s = sizes c.args.roster.now p.0.fine in
    let count = p.0.count in
    (p.0, p.1, omega arith, rw (length-replicate {A = ℕ} 576 0) (omega arith))

pub replicas-requires : goal.replicas-requires
replicas-requires c =
    let s = sizes c.args.roster.now c.requires.0.fine in
    let long : head_size ≤ length c.args.roster.now = omega (arith, s.size) in
    long

pub slice_bounds-settle-end : goal.slice_bounds-settle-end
slice_bounds-settle-end c =
    sym (c.find_votes.ensures.rooms.1 ∙ length-replicate {A = ℕ} 576 0)

pub settle-requires : goal.settle-requires
settle-requires c =
    let p = c.requires in
    let s = sizes c.args.roster.now p.0.fine in
    let n = c.replicas.ensures.0 in
    let low : 0 < c.replicas.result = omega (arith, n, s.low) in
    let high : c.replicas.result ≤ replicas_most = omega (arith, n, s.high) in
    let inside : c.args.candidate ≤ c.replicas.result = omega (arith, n, p.4) in
    let long : length c.find_votes.new.voted ≡ 576 = c.find_votes.ensures.rooms.1 ∙ length-replicate {A = ℕ} 576 0 in
    let room : replicas_most * c.args.terms.count ≤ length c.find_votes.new.voted = omega (arith, long, p.0.count) in
    (low, high, p.3, inside, room, p.2, p.5)

pub shape_of-votes : goal.shape_of-votes
shape_of-votes c =
    c.find_votes.ensures.rooms.0

pub shape_of-taken : goal.shape_of-taken
shape_of-taken c = c.settle.ensures.room

pub returns : goal.returns
returns c =
    let a = c.args in
    let p = c.requires in
    let s = sizes a.roster.now p.0.fine in
    let rows = rw c.replicas.ensures.0 at c.settle.ensures.rows in record {
      votes = λ rs last all wanted. (c.find_votes.ensures.votes rs last all wanted).0;
      tried = λ rs last all wanted stamps tried.
          tried-next a.roster.now a.items.now a.terms rs a.candidate p.3 p.4 s.high _ a.stamped.now a.taken.now _ (c.find_votes.ensures.votes rs last all wanted).1 stamps rows tried;
      held = held_next a.terms.size a.items.now (replicas a.roster.now) a.candidate a.terms.count p.3 p.4 s.high _ a.stamped.now a.taken.now _ rows c.find_votes.ensures.placed p.6 p.7;
      rooms = (c.find_votes.ensures.rooms.0, c.settle.ensures.room);
    }
