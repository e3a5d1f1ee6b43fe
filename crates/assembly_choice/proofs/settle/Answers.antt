-- One term a turn: the rows passed are settled, the others as they were.
use mathlib.Core.Path.{◌≡◌, refl, sym, ap, ◌∙◌}
use Prim.Native.Nat.{◌*◌, ◌≤◌}
use native.Mathlib.Omega.{arith}
use lib.ListN.{length, drop, length-drop}
use lib.Seq.{length-sets}
use Rattle.words.proofs.Laws.{part_end}
use Rattle.roster.specs.Sizes.{replicas_most}
use Rattle.assembly_choice.proofs.Settling.{settled_none, settled-put, settled-left}
use Rattle.assembly_choice.proofs.settle.Goals as goal
use Rattle.assembly_choice.proofs.settle.Goals.{then-is_electable, else-is_electable}

pub loop-t-init : goal.loop-t-init
loop-t-init c =
    let a = c.args in
    let start = settled_none a.n a.candidate a.voted.now a.stamped.now a.taken.now in
    (refl, start.0, start.1)

pub mask_of-mask-requires : goal.mask_of-mask-requires
mask_of-mask-requires c =
    let l = c.loop-t in
    let a = c.args in
    let room : a.n ≤ length (drop (9 * l.t) a.voted.now) = rw length-drop (omega arith) in
    (omega arith, rw (part_end a.voted.now (9 * l.t)) room)

pub put_row-requires : goal.put_row-requires
put_row-requires c =
    let a = c.args in
    let l = c.loop-t in
    let room : replicas_most ≤ length (drop (9 * l.t) a.voted.now) = rw length-drop (omega arith) in
    (omega arith, rw (part_end a.voted.now (9 * l.t)) room)

pub loop-t-preserved : goal.loop-t-preserved
loop-t-preserved c =
    let a = c.args in
    let l = c.loop-t in
    let part = part_end a.voted.now (9 * l.t) in
    let room : replicas_most ≤ length (drop (9 * l.t) a.voted.now) = rw length-drop (omega arith) in
    elim c.if-is_electable.branch [
      | then-is_electable w ↦
          let put = rw part at w.put_row.ensures in
          let next =
          settled-put a.n a.candidate a.voted.now a.stamped.now a.taken.now l.taken l.t c.mask_of-mask.result
          (λ S item_bytes. rw part at (c.mask_of-mask.ensures S item_bytes))
          l.invariant.1 l.invariant.2 room (omega arith) (sym c.is_electable.ensures ∙ w.if-is_electable.true) in
          rw w.taken-is (ap length put ∙ simp length-sets l.invariant.0, rw put next.0, rw put next.1)
      | else-is_electable w ↦
          let next =
          settled-left a.n a.candidate a.voted.now a.stamped.now a.taken.now l.taken l.t c.mask_of-mask.result
          (λ S item_bytes. rw part at (c.mask_of-mask.ensures S item_bytes))
          l.invariant.1 l.invariant.2 (sym c.is_electable.ensures ∙ w.if-is_electable.false) in
          rw w.taken-is (l.invariant.0, next.0, next.1)
    ]

pub shape_of-taken : goal.shape_of-taken
shape_of-taken c = c.loop-t.invariant.0

pub returns : goal.returns
returns c =
    let l = c.loop-t in
    let a = c.args in
    let all : l.t ≡ a.count = omega arith in
    record { rows = rw all at l.invariant.1; room = l.invariant.0 }
