-- A number a turn, into the rest of the buffer.
use mathlib.Core.Path.{sym, ◌∙◌}
use Prim.Native.Nat.{◌<◌}
use native.Mathlib.Omega.{arith}
use lib.ListN.{get_or}
use Rattle.words.proofs.Laws.{length-be}
use Rattle.words.proofs.Over.{over_first}
use Rattle.assembly_writer.specs.Parts.{field_count}
use Rattle.assembly_writer.proofs.Joined.{parts_none, part-inside, part_room, part_put, parts_all}
use Rattle.assembly_writer.proofs.trailer.put_fields.Goals as goal

pub loop-field-init : goal.loop-field-init
loop-field-init c = parts_none _ _ _

pub put_u32-requires : goal.put_u32-requires
put_u32-requires c =
    let l = c.loop-field in
    let less : l.field-index < field_count = omega arith in
    omega (arith, part_room _ _ _ c.requires l.invariant less, length-be 4 (get_or c.args.fields l.field-index 0))

pub overflow_add-at : goal.overflow_add-at
overflow_add-at c =
    let l = c.loop-field in
    let less : l.field-index < field_count = omega arith in
    omega (arith, part-inside _ _ _ c.requires l.invariant less, length-be 4 (get_or c.args.fields l.field-index 0))

pub loop-field-preserved : goal.loop-field-preserved
loop-field-preserved c =
    let l = c.loop-field in
    let less : l.field-index < field_count = omega arith in
    part_put _ _ _ c.requires l.invariant less (sym (length-be 4 _))
    (c.put_u32.ensures ∙ over_first _ _ (part_room _ _ _ c.requires l.invariant less))

pub shape_of-out : goal.shape_of-out
shape_of-out c = c.loop-field.invariant.2

pub returns : goal.returns
returns c = let it = parts_all _ _ _ c.loop-field.invariant (omega arith) in record { size = it.0; bytes = it.1 }
