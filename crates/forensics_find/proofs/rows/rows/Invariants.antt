-- One replica a turn: the rows of the replicas before it are done.
use Rattle.forensics.specs.Findings.{lowest}
use Rattle.forensics_charges.specs.Charges.{ruled_by}
use Rattle.forensics_find.specs.Tenures.{tenures_of}
use Rattle.forensics_find.proofs.Replicas.{Filled}
use Rattle.forensics_find.proofs.rows.rows.Given as goal

abbrev pub invariant-loop-i : goal.invariant-loop-i
invariant-loop-i l =
    Filled (λ k. lowest (ruled_by k l.difference (tenures_of l.width l.size l.a) (tenures_of l.width l.size l.b) l.first l.second)) l.place-items l.i
