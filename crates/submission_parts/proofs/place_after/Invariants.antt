-- One certificate a turn: those that are left end where all of them do.
use mathlib.Core.Path.{◌≡◌}
use Prim.Native.Nat.{◌-◌, ◌≤◌}
use Rattle.submission.specs.Reading.{certificates_end}
use Rattle.submission_parts.proofs.place_after.Given as goal

abbrev pub invariant-loop : goal.invariant-loop
invariant-loop l =
    (l.at ≤ l.end) × (certificates_end l.width l.size l.s (l.count - l.counter) l.at ≡ certificates_end l.width l.size l.s l.count l.from)
