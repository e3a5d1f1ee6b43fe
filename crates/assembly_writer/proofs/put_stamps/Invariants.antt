-- A stamp a turn, into the rest of the buffer.
use Prim.Native.Nat.{◌+◌, ◌*◌}
use lib.ListN.{get_or}
use Rattle.assembly_copies.specs.Rows.{taken_size}
use Rattle.assembly_writer.specs.Parts.{signature_at}
use Rattle.assembly_writer.proofs.Joined.{PartsPut}
use Rattle.assembly_writer.proofs.put_stamps.Given as goal

abbrev pub invariant-loop-t : goal.invariant-loop-t
invariant-loop-t l =
    PartsPut (λ j. signature_at l.plan.size l.items (get_or l.taken (taken_size * j + 1) 0)) l.initial.out l.plan.leaders l.t l.at l.out
