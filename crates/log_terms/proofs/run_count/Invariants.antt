-- One term a turn: the terms counted and those that are left are all.
use mathlib.Core.Path.{◌≡◌}
use Prim.Native.Nat.{◌+◌, ◌-◌, ◌≤◌}
use lib.ListN.{length}
use Rattle.log_chain.specs.Runs.{runs}
use Rattle.log_chain.specs.Records.{records_of}
use Rattle.log_terms.specs.Later.{runs_left}
use Rattle.log_terms.proofs.run_count.Given as goal

abbrev pub invariant-loop-i : goal.invariant-loop-i
invariant-loop-i l =
    (l.i ≤ l.records) × (l.count ≤ l.i) × (l.count + length (runs_left l.width l.records l.i l.s) ≡ length (runs (records_of l.width l.records l.s)))

abbrev pub decreases-loop-i : goal.decreases-loop-i
decreases-loop-i l = l.records - l.i
