-- A number a turn, into the rest of the buffer.
use lib.ListN.{get_or}
use Rattle.words.specs.BigEndian.{be}
use Rattle.assembly_writer.specs.Parts.{field_count}
use Rattle.assembly_writer.proofs.Joined.{PartsPut}
use Rattle.assembly_writer.proofs.trailer.put_fields.Given as goal

abbrev pub invariant-loop-field : goal.invariant-loop-field
invariant-loop-field l = PartsPut (λ j. be 4 (get_or l.field-items j 0)) l.initial.out field_count l.field-index l.at l.out
