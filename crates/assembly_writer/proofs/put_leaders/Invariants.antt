-- A certificate a turn, into the rest of the buffer.
use Rattle.assembly_writer.specs.Parts.{certificate_part}
use Rattle.assembly_writer.proofs.Joined.{PartsPut}
use Rattle.assembly_writer.proofs.put_leaders.Given as goal

abbrev pub invariant-loop-t : goal.invariant-loop-t
invariant-loop-t l =
    PartsPut (certificate_part l.items l.plan l.votes l.taken) l.initial.out l.plan.leaders l.t l.at l.out
