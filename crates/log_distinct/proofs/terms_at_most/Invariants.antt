-- One record a turn: the terms counted and the distinct ones of the records that are left are all.
use mathlib.Core.Path.{◌≡◌}
use Prim.Native.Nat.{◌+◌, ◌≤◌}
use Rattle.log_chain.specs.Records.{records_of}
use Rattle.log_terms.specs.Later.{records_after}
use Rattle.log_distinct.specs.Distinct.{distinct}
use Rattle.log_distinct.proofs.terms_at_most.Given as goal

abbrev pub invariant-loop-i : goal.invariant-loop-i
invariant-loop-i l =
    (l.count ≤ l.i) × (l.count ≤ l.most)
    × (l.count + distinct (records_after l.width l.records l.i l.s) ≡ distinct (records_of l.width l.records l.s))
