-- The stamps are found once, all candidates tried on an empty table, and the rows looked over.
use mathlib.Core.Path.{◌≡◌, sym, ◌∙◌}
use Prim.Native.Nat.{ℕ, ◌*◌, ◌≤◌}
use native.Mathlib.Omega.{arith}
use lib.ListN.{length, length-replicate}
use Rattle.roster.specs.Roster.{replicas}
use Rattle.roster.specs.Sizes.{replicas_most}
use Rattle.assembly_copies.specs.Rows.{taken_size}
use Rattle.assembly_choice.proofs.Tried.{tried-none, held_none}
use Rattle.assembly_choice.proofs.Chosen.{leaders-chosen}
use Rattle.assembly_choice.proofs.choose.Goals as goal

pub slice_bounds-find_stamps-end : goal.slice_bounds-find_stamps-end
slice_bounds-find_stamps-end c = sym (length-replicate {A = ℕ} 576 0)

pub find_stamps-requires : goal.find_stamps-requires
find_stamps-requires c =
    let p = c.requires in
    let count = p.0.count in
    (p.0, p.2, rw (length-replicate {A = ℕ} 576 0) (omega arith))

pub slice_bounds-try_all-end : goal.slice_bounds-try_all-end
slice_bounds-try_all-end c =
    sym (c.find_stamps.ensures.room ∙ length-replicate {A = ℕ} 576 0)

pub try_all-requires : goal.try_all-requires
try_all-requires c =
    let a = c.args in
    let p = c.requires in
    let long : length c.find_stamps.new.stamped ≡ 576 = c.find_stamps.ensures.room ∙ length-replicate {A = ℕ} 576 0 in
    let stamps : replicas_most * a.terms.count ≤ length c.find_stamps.new.stamped = omega (arith, long, p.0.count) in
    let taken : taken_size * a.terms.count ≤ length c.clear.new.rows = omega (arith, c.clear.ensures.room, p.3) in
    (p.0, p.1, stamps, taken, c.find_stamps.ensures.placed, held_none a.terms.size a.items.now (replicas a.roster.now) a.terms.count _ c.clear.ensures.empty)

pub all_taken-requires : goal.all_taken-requires
all_taken-requires c =
    let taken : taken_size * c.args.terms.count ≤ length c.try_all.new.taken =
    omega (arith, c.try_all.ensures.rooms.1, c.clear.ensures.room, c.requires.3) in
    taken

pub shape_of-votes : goal.shape_of-votes
shape_of-votes c = c.try_all.ensures.rooms.0

pub shape_of-taken : goal.shape_of-taken
shape_of-taken c =
    c.try_all.ensures.rooms.1 ∙ c.clear.ensures.room

pub returns : goal.returns
returns c =
    let done = c.try_all.ensures in
    let a = c.args in record {
      leaders = leaders-chosen a.roster.now a.items.now a.terms a.votes.now a.stamps.now _ _ c.all_taken.ensures
          (λ rs all votes stamps.
          done.tried rs all votes (c.find_stamps.ensures.stamps rs all stamps)
          (tried-none a.roster.now a.items.now a.terms rs c.clear.new.rows c.clear.ensures.empty));
      held = done.held;
      votes = done.votes;
      rooms = (done.rooms.0, done.rooms.1 ∙ c.clear.ensures.room);
    }
