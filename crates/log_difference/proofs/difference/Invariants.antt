-- One record of each a turn: what is left of the logs differs first where all of them do.
-- What the last test compared is said in both of its arms: a need cannot be handed what another has named.
use mathlib.Core.Path.{◌≡◌}
use Rattle.log_chain.specs.Records.{records_of}
use Rattle.log_chain.specs.Difference.{differ_at}
use Rattle.log_difference.proofs.Steps.{differ_from}
use Rattle.log_difference.proofs.difference.Given as goal

abbrev pub invariant-loop-i : goal.invariant-loop-i
invariant-loop-i l =
    differ_from l.width l.first l.second l.a l.b l.i ≡ differ_at 1 (records_of l.width l.first l.a) (records_of l.width l.second l.b)
