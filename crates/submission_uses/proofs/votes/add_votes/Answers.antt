-- One leader certificate a turn.
use mathlib.Core.Path.{◌≡◌, refl, ◌∙◌}
use Prim.Native.Nat.{◌+◌, ◌-◌}
use native.Mathlib.Omega.{arith}
use Rattle.submission.proofs.Certificates.{rest-inside, first-inside}
use Rattle.submission_parts.proofs.Shapes.{known-certificates, leaders-room}
use Rattle.submission_leaves.specs.Entries.{entry_uses}
use Rattle.submission_uses.proofs.Gathered.{votes-next, votes-done}
use Rattle.submission_uses.proofs.votes.add_votes.Goals as goal

pub loop-init : goal.loop-init
loop-init c =
    let p = c.requires in
    let known = p.0.counted.laid.known in
    let left : c.args.shape.leaders - 0 ≡ c.args.shape.leaders = omega arith in
    rw left (leaders-room _ _ known, omega arith, refl, rw (known-certificates _ _ known))

pub add_vote-count-requires : goal.add_vote-count-requires
add_vote-count-requires c =
    let l = c.loop in
    let a = c.args in
    let p = c.requires in
    let laid = p.0.counted.laid in (
      laid.fine,
      laid.known.bounds.width,
      p.3,
      laid.known.bounds.signature,
      first-inside a.shape.width a.shape.size a.s.now (a.shape.leaders - l.counter) l.at (omega arith) l.invariant.0,
      laid.known.bounds.short,
      p.1,
      p.2,
      omega (arith, l.invariant.1, l.invariant.2, p.4),
    )

pub certificate_end-at-requires : goal.certificate_end-at-requires
certificate_end-at-requires c =
    let l = c.loop in
    let a = c.args in
    (c.requires.0.counted.laid.known.bounds.width, first-inside a.shape.width a.shape.size a.s.now (a.shape.leaders - l.counter) l.at (omega arith) l.invariant.0)

pub loop-preserved : goal.loop-preserved
loop-preserved c =
    let put = c.add_vote-count in
    let l = c.loop in
    let a = c.args in
    let fewer : a.shape.leaders - l.counter - 1 ≡ a.shape.leaders - (l.counter + 1) = omega arith in
    rw (c.certificate_end-at.ensures, ← fewer) (
      rest-inside a.shape.width a.shape.size a.s.now (a.shape.leaders - l.counter) l.at (omega arith) l.invariant.0,
      omega (arith, l.invariant.1, put.ensures.few),
      put.auto.buffer ∙ l.invariant.2,
      votes-next _ a.shape.width a.shape.size a.s.now a.k (a.shape.leaders - l.counter) l.at (omega arith) (entry_uses l.count l.buffer) put.ensures.uses l.invariant.3,
    )

pub shape_of-buffer : goal.shape_of-buffer
shape_of-buffer c = c.loop.invariant.2

pub returns : goal.returns
returns c =
    let l = c.loop in
    let a = c.args in
    record { few = omega (arith, l.invariant.1); uses = votes-done _ a.shape.width a.shape.size a.s.now a.k (a.shape.leaders - l.counter) l.at (omega arith) (entry_uses l.count l.buffer) l.invariant.3 }
