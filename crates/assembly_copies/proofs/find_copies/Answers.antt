-- One item a turn: what is found so far, with what the items that are left have, is what all of them have. Every item is read, since the bag
-- is whole.
use mathlib.Core.Path.{refl, sym, ◌∙◌}
use native.Mathlib.Omega.{arith}
use borrow.Author.Rules.{rules}
use lib.ListN.{length}
use Rattle.assembly_items.proofs.Items.{stands}
use Rattle.assembly_copies.specs.Rows.{Placed}
use Rattle.assembly_copies.specs.Sought.{CopiesFound}
use Rattle.assembly_copies.proofs.Walks.{item_lies, searched_room, walked_none, walked_all, never, walked-unlike, walked-taken}
use Rattle.assembly_copies.proofs.find_copies.Goals as goal

pub overflow_mul-sought : goal.overflow_mul-sought
overflow_mul-sought c = omega (arith, c.requires.cells)

pub clear-requires : goal.clear-requires
clear-requires c = c.requires.cells

pub returns-then-sought-eq0 : goal.returns-then-sought-eq0
unfolding CopiesFound Placed
returns-then-sought-eq0 c =
    let none = c.if-sought-eq0.true in
    record {
      copies = λ m h. absurd (omega (arith, h, none));
      placed = λ j h. absurd (omega (arith, h, none));
      room = c.clear.ensures.room;
    }

pub loop-at-init : goal.loop-at-init
loop-at-init c =
    let a = c.args in
    walked_none a.roster.now a.items.now a.wanted.now a.sought (length c.clear.new.rows)
    (searched_room a.roster.now a.items.now a.wanted.now a.sought c.clear.ensures.room c.requires) c.clear.new.rows refl
    c.clear.ensures.empty

pub read-requires : goal.read-requires
read-requires c =
    (c.loop-at.invariant.low, c.requires.width, c.requires.size)

pub returns-in_default : goal.returns-in_default
returns-in_default c =
    let a = c.args in
    absurd
    (never a.roster.now a.items.now a.wanted.now a.sought _ c.loop-at.rows c.loop-at.at c.loop-at.invariant (omega arith)
    (sym c.read.ensures ∙ c.in_default.is))

pub alike-requires : goal.alike-requires
alike-requires c =
    let a = c.args in (
      c.requires.fine,
      c.requires.inside,
      item_lies a.sought.width a.sought.size a.items.now c.loop-at.at (sym c.read.ensures ∙ c.in-Some.is),
    )

pub offer-requires : goal.offer-requires
offer-requires c =
    let a = c.args in
    record {
      fine = c.requires.fine;
      short = c.requires.short;
      inside = c.requires.inside;
      cells = omega (arith, c.requires.cells, c.loop-at.invariant.long, c.clear.ensures.room);
      placed = c.loop-at.invariant.placed;
      lies = item_lies a.sought.width a.sought.size a.items.now c.loop-at.at
          (sym c.read.ensures ∙ c.in-Some.is);
      alike = c.alike.ensures.yes c.if-alike.true;
    }

pub loop-at-smaller-then-alike : goal.loop-at-smaller-then-alike
loop-at-smaller-then-alike c =
    let a = c.args in
    let here =
    stands a.sought.width a.sought.size a.items.now c.loop-at.at
    (sym c.read.ensures ∙ c.in-Some.is) in
    omega (arith, here, c.loop-at-test)

pub loop-at-preserved-then-alike : goal.loop-at-preserved-then-alike
loop-at-preserved-then-alike c =
    let a = c.args in
    let given = c.offer.ensures in
    walked-taken a.roster.now a.items.now a.wanted.now a.sought _ c.loop-at.rows c.loop-at.at c.loop-at.invariant (search rules)
    (sym c.read.ensures ∙ c.in-Some.is) _ given.taken given.placed given.room

pub loop-at-smaller : goal.loop-at-smaller
loop-at-smaller c =
    let a = c.args in
    let here =
    stands a.sought.width a.sought.size a.items.now c.loop-at.at
    (sym c.read.ensures ∙ c.in-Some.is) in
    omega (arith, here)

pub loop-at-preserved : goal.loop-at-preserved
loop-at-preserved c =
    let a = c.args in
    walked-unlike a.roster.now a.items.now a.wanted.now a.sought _ c.loop-at.rows c.loop-at.at c.loop-at.invariant (search rules)
    (sym c.read.ensures ∙ c.in-Some.is) (c.alike.ensures.no c.if-alike.false)

pub returns : goal.returns
returns c =
    let a = c.args in
    let room = c.clear.ensures.room in
    record {
      copies = walked_all a.roster.now a.items.now a.wanted.now a.sought _
          (searched_room a.roster.now a.items.now a.wanted.now a.sought room c.requires) c.loop-at.rows c.loop-at.at c.loop-at.invariant
          (omega arith);
      placed = c.loop-at.invariant.placed;
      room = c.loop-at.invariant.long ∙ room;
    }
