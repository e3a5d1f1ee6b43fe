-- One term a turn: the tables have the ends of the terms that the walk has passed, and the others are left.
use mathlib.Core.Path.{◌≡◌}
use Prim.Native.Nat.{◌-◌, ◌≤◌}
use Rattle.log_chain.specs.Records.{records_of}
use Rattle.log_chain.specs.Runs.{runs}
use Rattle.log_terms.specs.Later.{runs_left}
use Rattle.log_terms.specs.Pointed.{PointersCarried}
use Rattle.assembly_terms.proofs.Added.{Filling}
use Rattle.assembly_terms.proofs.put_ends.Given as goal

abbrev pub invariant-loop-end : goal.invariant-loop-end
invariant-loop-end l =
    (l.end ≤ l.records) × (l.walked.end ≡ l.end) × PointersCarried l.width 0 l.walked.end l.log l.walked.pointers
    × Filling l.width (runs (records_of l.width l.records l.log)) (runs_left l.width l.records l.walked.end l.log) l.initial.votes l.initial.stamps l.votes l.stamps l.vote l.stamp l.count

abbrev pub decreases-loop-end : goal.decreases-loop-end
decreases-loop-end l = l.records - l.end
