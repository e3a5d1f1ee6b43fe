-- One leader certificate a turn: the votes of those that are left give what all of them give.
use native.Mathlib.Omega.{arith}
use Rattle.roster.specs.Roster.{replicas}
use Rattle.submission.proofs.Certificates.{rest-inside, first-inside}
use Rattle.submission_parts.proofs.Shapes.{known-certificates, leaders-room}
use Rattle.submission_signatures.proofs.Facts.{leaders-quorate}
use Rattle.submission_signatures.proofs.Turns.{first-signers, rest-quorums, votes-fail, votes-next, votes-done}
use mathlib.Core.Path.{◌≡◌, ap}
use Prim.Native.Nat.{◌+◌, ◌-◌}
use mathlib.Core.Bool.{not}
use Rattle.submission_signatures.proofs.votes.votes_good.Goals as goal

pub loop-init : goal.loop-init
loop-init c =
    let p = c.requires in
    let laid = p.counted.laid in
    let all = known-certificates _ _ laid.known in
    let left : c.args.shape.leaders - 0 ≡ c.args.shape.leaders = omega arith in
    rw left (leaders-room _ _ laid.known, rw all (leaders-quorate _ _ _ laid), rw all)

pub votes_good_at-requires : goal.votes_good_at-requires
votes_good_at-requires c =
    let a = c.args in
    let l = c.loop in (
      c.requires.counted.laid.fine,
      c.requires.counted.laid.known.bounds.width,
      first-signers a.shape.width a.shape.size a.s.now (a.shape.leaders - l.counter) l.at (omega arith) (replicas a.roster.now) l.invariant.1,
      first-inside a.shape.width a.shape.size a.s.now (a.shape.leaders - l.counter) l.at (omega arith) l.invariant.0,
    )

pub returns-then-not-votes_good_at : goal.returns-then-not-votes_good_at
returns-then-not-votes_good_at c =
    let a = c.args in
    let l = c.loop in
    votes-fail a.shape.width a.shape.size a.s.now (a.shape.leaders - l.counter) l.at (omega arith) _ l.invariant.2 c.votes_good_at.ensures (ap not c.if-not-votes_good_at.true)

pub certificate_end-at-requires : goal.certificate_end-at-requires
certificate_end-at-requires c =
    let a = c.args in
    let l = c.loop in
    (c.requires.counted.laid.known.bounds.width, first-inside a.shape.width a.shape.size a.s.now (a.shape.leaders - l.counter) l.at (omega arith) l.invariant.0)

pub loop-preserved : goal.loop-preserved
loop-preserved c =
    let a = c.args in
    let l = c.loop in
    let fewer : a.shape.leaders - l.counter - 1 ≡ a.shape.leaders - (l.counter + 1) = omega arith in
    rw (c.certificate_end-at.ensures, ← fewer) (
      rest-inside a.shape.width a.shape.size a.s.now (a.shape.leaders - l.counter) l.at (omega arith) l.invariant.0,
      rest-quorums a.shape.width a.shape.size a.s.now (a.shape.leaders - l.counter) l.at (omega arith) (replicas a.roster.now) l.invariant.1,
      votes-next a.shape.width a.shape.size a.s.now (a.shape.leaders - l.counter) l.at (omega arith) _ l.invariant.2 c.votes_good_at.ensures (ap not c.if-not-votes_good_at.false),
    )

pub returns : goal.returns
returns c =
    let a = c.args in
    let l = c.loop in
    votes-done a.shape.width a.shape.size a.s.now (a.shape.leaders - l.counter) l.at _ l.invariant.2 (omega arith)
