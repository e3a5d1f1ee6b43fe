-- The candidate is written into the table, and then one walk over the bag.
use mathlib.Core.Path.{ap, ◌∙◌}
use Prim.Native.Nat.{◌≤◌}
use native.Mathlib.Omega.{arith}
use lib.ListN.{length}
use lib.Seq.{length-sets}
use Rattle.words.specs.BigEndian.{be}
use Rattle.assembly_terms.specs.Wanted.{vote_head, vote_tail}
use Rattle.assembly_choice.proofs.Found.{fewer_terms_inside, votes-placed, votes-for}
use Rattle.assembly_choice.proofs.find_votes.Goals as goal

pub put_u16-requires : goal.put_u16-requires
put_u16-requires c =
    let room : 19 ≤ length c.args.votes.now = omega (arith, c.requires.1) in
    room

pub find_copies-requires : goal.find_copies-requires
find_copies-requires c =
    let tail = c.vote_tail-tail.ensures.0 in
    let a = c.args in
    let p = c.requires.0 in
    let w = p.width in
    let kept = ap length c.put_u16.ensures ∙ length-sets a.votes.now 17 (be 2 a.candidate) in
    rw (c.sought-sought.ensures, tail)
    record {
      fine = p.fine;
      width = w;
      size = p.size;
      items = p.items;
      short = omega (arith, tail);
      inside = rw kept (fewer_terms_inside vote_head (vote_tail a.terms.width) a.terms.count (length a.votes.now) p.count c.requires.1);
      cells = c.requires.3;
    }

pub shape_of-votes : goal.shape_of-votes
shape_of-votes c =
    let a = c.args in
    ap length c.put_u16.ensures ∙ length-sets a.votes.now 17 (be 2 a.candidate)

pub shape_of-voted : goal.shape_of-voted
shape_of-voted c = c.find_copies.ensures.room

pub returns : goal.returns
returns c =
    let found = c.find_copies in
    let a = c.args in
    let kept = ap length c.put_u16.ensures ∙ length-sets a.votes.now 17 (be 2 a.candidate) in
    let copies = rw (c.sought-sought.ensures, c.vote_tail-tail.ensures.0) at found.ensures.copies in record {
      votes = λ rs last all wanted.
          let named = votes-for a.roster.now a.items.now a.terms c.requires.0.fine rs all last a.candidate a.votes.now _ c.put_u16.ensures wanted in
          (named, votes-placed a.roster.now a.items.now a.terms c.requires.0.fine rs all a.candidate c.put_u16.new.out _ copies named);
      placed = rw c.sought-sought.ensures at found.ensures.placed;
      rooms = (kept, found.ensures.room);
    }
