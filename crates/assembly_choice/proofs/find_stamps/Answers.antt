-- One walk over the bag; what it finds for each statement is what a term's stamps are.
use native.Mathlib.Omega.{arith}
use lib.ListN.{length}
use Rattle.assembly_terms.specs.Wanted.{stamp_head, stamp_tail}
use Rattle.assembly_choice.proofs.Found.{fewer_terms_inside, stamps-placed}
use Rattle.assembly_choice.proofs.find_stamps.Goals as goal

pub find_copies-requires : goal.find_copies-requires
find_copies-requires c =
    let tail = c.stamp_tail-tail.ensures.0 in
    let a = c.args in
    let p = c.requires.0 in
    let w = p.width in
    rw (c.sought-sought.ensures, tail)
    record {
      fine = p.fine;
      width = w;
      size = p.size;
      items = p.items;
      short = omega (arith, tail);
      inside = fewer_terms_inside stamp_head (stamp_tail a.terms.width) a.terms.count (length a.stamps.now) p.count c.requires.1;
      cells = c.requires.2;
    }

pub shape_of-stamped : goal.shape_of-stamped
shape_of-stamped c = c.find_copies.ensures.room

pub returns : goal.returns
returns c =
    let found = c.find_copies in
    let a = c.args in
    let copies = rw (c.sought-sought.ensures, c.stamp_tail-tail.ensures.0) at found.ensures.copies in
    record {
      stamps = λ rs all wanted. stamps-placed a.roster.now a.items.now a.terms c.requires.0.fine rs all a.stamps.now _ copies wanted;
      placed = rw c.sought-sought.ensures at found.ensures.placed;
      room = found.ensures.room;
    }
