-- One record a turn: p has the pointers after record k.
use Rattle.log_terms.specs.Pointed.{PointersCarried}
use Rattle.log_terms.proofs.pointers.pointers_after.Given as goal

abbrev pub invariant-loop-k : goal.invariant-loop-k
invariant-loop-k l = PointersCarried l.width l.commit l.k l.s l.p
