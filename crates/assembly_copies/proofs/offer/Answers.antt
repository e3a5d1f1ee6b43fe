-- One statement a turn: those before have what the offer makes of their cells, and the others are as they were.
use mathlib.Core.Path.{◌≡◌, sym, ◌∙◌}
use Prim.Native.Nat.{◌+◌, ◌-◌, ◌*◌}
use native.Mathlib.Omega.{arith}
use Rattle.roster.proofs.Accepted.{sizes}
use Rattle.assembly_copies.proofs.Fitting.{own-inside, own-length}
use Rattle.assembly_copies.proofs.Turns.{turned_none, turned-all, turn-had, turn-unfit, turn-taken}
use Rattle.assembly_copies.proofs.offer.Goals as goal
use Rattle.assembly_copies.proofs.offer.Goals.{then-free+then-is_copy, else-free}
use Rattle.assembly_copies.proofs.offer.Goals.{else-free-via-then-free+else-is_copy, else-free-via-else-free}

pub overflow_sub-column : goal.overflow_sub-column
overflow_sub-column c = omega (arith, c.requires.alike.numbered)

pub loop-m-init : goal.loop-m-init
loop-m-init c =
    let a = c.args in
    turned_none a.roster.now a.items.now a.wanted.now a.sought a.item a.rows.now c.requires.placed

pub overflow_mul-cell : goal.overflow_mul-cell
overflow_mul-cell c = omega (arith, c.requires.cells)

pub overflow_add-cell : goal.overflow_add-cell
overflow_add-cell c =
    let roster = sizes c.args.roster.now c.requires.fine in
    omega (arith, c.requires.cells, c.requires.alike.numbered, c.requires.alike.known, roster.high)

pub overflow_mul-from : goal.overflow_mul-from
overflow_mul-from c =
    let a = c.args in
    omega (arith, own-inside a.wanted.now a.sought c.requires.inside c.loop-m.m (omega arith))

pub overflow_add-from : goal.overflow_add-from
overflow_add-from c =
    let a = c.args in
    omega (arith, own-inside a.wanted.now a.sought c.requires.inside c.loop-m.m (omega arith))

pub overflow_add-end : goal.overflow_add-end
overflow_add-end c =
    let a = c.args in
    omega (arith, own-inside a.wanted.now a.sought c.requires.inside c.loop-m.m (omega arith))

pub bounds-rows-cell : goal.bounds-rows-cell
bounds-rows-cell c =
    let roster = sizes c.args.roster.now c.requires.fine in
    omega (arith, c.requires.cells, c.requires.alike.numbered, c.requires.alike.known, roster.high, c.loop-m.invariant.room)

pub slice_bounds-is_copy-end : goal.slice_bounds-is_copy-end
slice_bounds-is_copy-end c =
    let a = c.args in
    omega (arith, own-inside a.wanted.now a.sought c.requires.inside c.loop-m.m (omega arith))

pub is_copy-requires : goal.is_copy-requires
is_copy-requires c =
    let a = c.args in
    let p = c.requires in
    let size : a.sought.head + a.sought.tail * c.loop-m.m + a.sought.tail - (a.sought.head + a.sought.tail * c.loop-m.m) ≡ a.sought.tail = omega arith in
    let long = own-length a.wanted.now a.sought p.inside c.loop-m.m (omega arith) in (
      p.fine,
      p.alike.numbered,
      p.alike.known,
      omega (arith, p.alike.long, p.short),
      rw (size, long) (omega (arith, p.alike.long)),
      omega (arith, p.lies.begins),
      omega (arith, p.lies.ends),
      p.lies.within,
    )

pub bounds-rows-cell-then-is_copy : goal.bounds-rows-cell-then-is_copy
bounds-rows-cell-then-is_copy c =
    let roster = sizes c.args.roster.now c.requires.fine in
    omega (arith, c.requires.cells, c.requires.alike.numbered, c.requires.alike.known, roster.high, c.loop-m.invariant.room)

pub loop-m-preserved : goal.loop-m-preserved
loop-m-preserved c =
    let a = c.args in
    let p = c.requires in
    let l = c.loop-m in
    let size : a.sought.head + a.sought.tail * l.m + a.sought.tail - (a.sought.head + a.sought.tail * l.m) ≡ a.sought.tail = omega arith in
    let few = (sizes a.roster.now p.fine).high in
    elim c.if-free.branch [
      | then-free+then-is_copy w ↦
          rw w.rows-is
          (turn-taken a.roster.now a.items.now a.wanted.now a.sought a.item a.rows.now few p.lies p.alike
          l.m (omega arith) l.rows l.invariant p.inside p.cells (omega (arith, w.if-free.true))
          (sym (rw size at w.is_copy.ensures) ∙ w.if-is_copy.true))
      | else-free w ↦
          rw w.rows-is
          (elim w.else-free.branch [
            | else-free-via-then-free+else-is_copy u ↦
                turn-unfit a.roster.now a.items.now a.wanted.now a.sought a.item a.rows.now few p.lies p.alike
                l.m (omega arith) l.rows l.invariant p.inside (sym (rw size at u.is_copy.ensures) ∙ u.if-is_copy.false)
            | else-free-via-else-free u ↦
                turn-had a.roster.now a.items.now a.wanted.now a.sought a.item a.rows.now few p.lies p.alike
                l.m (omega arith) l.rows l.invariant (λ e. omega (arith, e, u.if-free.false))
          ])
    ]

pub returns : goal.returns
returns c =
    let a = c.args in
    let l = c.loop-m in
    record {
      taken = turned-all a.roster.now a.items.now a.wanted.now a.sought a.item a.rows.now l.rows l.m l.invariant (omega arith);
      placed = l.invariant.placed;
      room = l.invariant.room;
    }
