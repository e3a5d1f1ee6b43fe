-- One certificate a turn: those that are left give what all of them give, and end inside.
use mathlib.Core.Path.{◌≡◌}
use Prim.Native.Nat.{◌-◌, ◌≤◌}
use Rattle.refusal.specs.Checks.{every}
use Rattle.submission.specs.Reading.{certificates_end}
use Rattle.submission_quorums.specs.Signers.{leader_masks}
use Rattle.submission.specs.Validate.{quorate}
use Rattle.submission_quorums.proofs.leaders_quorate.Given as goal

abbrev pub invariant-loop : goal.invariant-loop
invariant-loop l =
    (certificates_end l.width l.size l.s (l.count - l.counter) l.at ≤ l.end) × (every (quorate l.n) (leader_masks l.width l.size l.s (l.count - l.counter) l.at) ≡ every (quorate l.n) (leader_masks l.width l.size l.s l.count l.from))
