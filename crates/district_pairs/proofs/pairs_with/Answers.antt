-- From the last submission down to the one after i: what the pairs with those from `j` on show, before the pairs of the later ones.
use mathlib.Core.Path.{◌≡◌, ap, ◌∙◌}
use Prim.Native.Nat.{suc, ◌-◌, ◌≤◌, ◌<◌}
use native.Mathlib.Omega.{arith}
use lib.ListN.{length}
use Rattle.district.specs.District.{entry}
use Rattle.district_pairs.specs.Entries.{entry_of}
use Rattle.district_pairs.proofs.Walk.{part_at, with_one, with_none, with-turn, with_all}
use Rattle.district_pairs.proofs.pairs_with.Goals as goal

-- the place i is one of nine
pub loop-j-init : goal.loop-j-init
loop-j-init c =
    let a = c.args in
    let held = c.requires.0 in
    let whole : a.entries.count ≤ length a.entries.parts = omega (arith, held.room.places, held.room.taken) in
    (c.requires.1, c.requires.2 ∙ with_none a.roster.now a.buffer.now a.entries whole _ a.i)

-- and so is j, when it has been lowered
pub audit_parts-found-requires : goal.audit_parts-found-requires
audit_parts-found-requires c =
    let l = c.loop-j in
    let e = c.args.entries in
    let held = c.requires.0 in
    let whole : e.count ≤ length e.parts = omega (arith, held.room.places, held.room.taken) in
    let below : l.j - 1 < e.count = omega (arith, l.invariant.0, l.auto.j) in
    (held.fine, held.fit _ (part_at e whole c.args.i _ c.requires.1), held.fit _ (part_at e whole (l.j - 1) _ below))

pub loop-j-preserved : goal.loop-j-preserved
unfolding entry_of entry
loop-j-preserved c =
    let l = c.loop-j in
    let a = c.args in
    let e = a.entries in
    let held = c.requires.0 in
    let whole : e.count ≤ length e.parts = omega (arith, held.room.places, held.room.taken) in
    let low : 0 < l.j = omega (arith, l.invariant.0) in (
      omega (arith, c.loop-j-test),
      c.with_pair-shown.ensures
          ∙ with-turn a.roster.now a.buffer.now e whole _ a.i l.j _ _ l.shown low l.auto.j l.invariant.1 c.audit_parts-found.ensures.findings,
    )

pub returns : goal.returns
returns c =
    let l = c.loop-j in
    let a = c.args in
    let held = c.requires.0 in
    let whole : a.entries.count ≤ length a.entries.parts = omega (arith, held.room.places, held.room.taken) in
    let end : l.j ≡ suc a.i = omega (arith, l.invariant.0) in
    l.invariant.1 ∙ ap (with_one a.roster.now a.buffer.now a.entries _ a.i) end
    ∙ with_all a.roster.now a.buffer.now a.entries whole a.i _ c.requires.1
