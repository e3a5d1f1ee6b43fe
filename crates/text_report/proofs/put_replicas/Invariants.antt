-- A replica a turn: before replica k the lines of the replicas below it are put.
use Prim.Native.Nat.{◌-◌, ◌*◌}
use Rattle.text_report.specs.Lines.{replica_lines}
use Rattle.text_decimal.specs.Put.{Put}
use Rattle.text_report.proofs.put_replicas.Given as goal

abbrev pub invariant-loop-k : goal.invariant-loop-k
invariant-loop-k l = Put l.initial.out l.out l.at l.next (replica_lines l.report (l.k - 1) 1) (49 * (l.k - 1))
