-- A signature a turn, into the rest of the buffer.
use lib.ListN.{get_or}
use Rattle.assembly_writer.specs.Parts.{signature_at}
use Rattle.assembly_writer.proofs.Joined.{PartsPut}
use Rattle.assembly_writer.proofs.put_signatures.Given as goal

abbrev pub invariant-loop-k : goal.invariant-loop-k
invariant-loop-k l = PartsPut (λ j. signature_at l.size l.items (get_or l.places j 0)) l.initial.out l.n l.k l.at l.out
