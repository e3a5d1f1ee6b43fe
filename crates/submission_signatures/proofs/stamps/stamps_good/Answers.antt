-- One leader certificate a turn, with the next one's last index and pointer, which are its term's last record; the last term's are the log's.
-- What a turn and the last stamp ask for is one list, said in both needs: a need cannot be handed what another has named.
use mathlib.Core.Path.{◌≡◌, sym, ap, ◌∙◌}
use mathlib.Core.List.{[]}
use Prim.Native.Nat.{◌+◌, ◌-◌, ◌<◌}
use native.Mathlib.Omega.{arith}
use lib.ListN.{length}
use Rattle.log_chain.specs.Log.{with_terms, pointer}
use Rattle.log_chain.specs.Runs.{runs}
use Rattle.log_chain.specs.Records.{records_of}
use Rattle.log_chain.proofs.Records.{length-records}
use Rattle.submission.proofs.Certificates.{rest-inside, first-inside}
use Rattle.submission_parts.proofs.Shapes.{known-leads, run-count, few-records, leaders-room, stamps-room as stamps-inside}
use Rattle.submission_signatures.proofs.Turns.{fields-room, next-fields, stamps-room}
use Rattle.log_chain.proofs.Linked.{linked_runs}
use Rattle.submission.proofs.Linked.{leads_from}
use Rattle.submission_signatures.proofs.StampsLeft.{stamps-done, this, not_last, is_last, stamp-fail, stamp-next, stamp-last}
use mathlib.Core.Bool.{not}
use Rattle.submission_signatures.proofs.stamps.stamps_good.Goals as goal

pub loop-init : goal.loop-init
unfolding leads_from
loop-init c =
    let a = c.args in
    let checked = c.requires.0 in
    let known = checked.counted.laid.known in
    let log = records_of a.shape.width a.shape.records a.s.now in
    let all = known-leads _ _ known in
    let left : a.shape.leaders + 1 - 1 ≡ a.shape.leaders = omega arith in
    rw left (
      leaders-room _ _ known,
      stamps-inside _ _ known,
      record {
        before = [];
        runs = runs log;
        terms = record { linked = linked_runs log; count = run-count _ _ known checked.counted.count; leaders = rw all checked.leaders };
        answer = rw all;
      },
    )

pub certificate_end-next-requires : goal.certificate_end-next-requires
certificate_end-next-requires c =
    let a = c.args in
    let l = c.loop in
    (c.requires.0.counted.laid.known.bounds.width, first-inside a.shape.width a.shape.size a.s.now (a.shape.leaders + 1 - l.counter) l.at (omega arith) l.invariant.0)

pub stamp_before-part-requires : goal.stamp_before-part-requires
stamp_before-part-requires c =
    let a = c.args in
    let l = c.loop in
    (c.requires.0.counted.laid.known.bounds.width, rw c.certificate_end-next.ensures (next-fields _ _ _ (a.shape.leaders + 1 - l.counter) l.at (omega arith) l.invariant.0))

pub stamp_good-requires : goal.stamp_good-requires
stamp_good-requires c =
    let a = c.args in
    let l = c.loop in
    let laid = c.requires.0.counted.laid in
    let t = this a.roster.now a.s.now a.shape.width a.shape.size _ (a.shape.leaders + 1 - l.counter) l.at l.stamp l.invariant.2 (omega arith) in
    let places = c.stamp_before-part.ensures.places in
    rw (places.0, places.1) (
      laid.fine,
      laid.known.bounds.width,
      fields-room a.shape.width a.shape.size a.s.now (a.shape.leaders + 1 - l.counter) l.at (omega arith) l.invariant.0,
      t.facts.low,
      t.facts.high,
      omega (arith, stamps-room a.shape.size a.s.now (a.shape.leaders + 1 - l.counter) l.stamp (omega arith) l.invariant.1),
    )

pub returns-then-not-stamp_good : goal.returns-then-not-stamp_good
returns-then-not-stamp_good c =
    let a = c.args in
    let l = c.loop in
    let place = not_last a.roster.now a.s.now a.shape.width a.shape.size _ (a.shape.leaders + 1 - l.counter) l.at l.stamp l.invariant.2 (omega arith) (omega arith) _ _ _
    c.certificate_end-next.ensures c.stamp_before-part.ensures.index c.stamp_before-part.ensures.pointer in
    let places = c.stamp_before-part.ensures.places in
    stamp-fail a.roster.now a.s.now a.shape.width a.shape.size _ (a.shape.leaders + 1 - l.counter) l.at l.stamp l.invariant.2 (omega arith) _ _ place.0 place.1
    (rw (places.0, places.1) at c.stamp_good.ensures) (ap not c.if-not-stamp_good.true)

pub overflow_add-stamp : goal.overflow_add-stamp
overflow_add-stamp c =
    let a = c.args in
    let l = c.loop in
    omega (arith, c.requires.0.counted.laid.known.bounds.short, stamps-room a.shape.size a.s.now (a.shape.leaders + 1 - l.counter) l.stamp (omega arith) l.invariant.1)

pub loop-preserved : goal.loop-preserved
loop-preserved c =
    let a = c.args in
    let l = c.loop in
    let more : 0 < a.shape.leaders + 1 - l.counter = omega arith in
    let next = c.certificate_end-next.ensures in
    let place = not_last a.roster.now a.s.now a.shape.width a.shape.size _ (a.shape.leaders + 1 - l.counter) l.at l.stamp l.invariant.2 more (omega arith) _ _ _
    next c.stamp_before-part.ensures.index c.stamp_before-part.ensures.pointer in
    let places = c.stamp_before-part.ensures.places in
    let fewer : a.shape.leaders + 1 - l.counter - 1 ≡ a.shape.leaders + 1 - (l.counter + 1) = omega arith in
    rw (next, ← fewer) (
      rest-inside a.shape.width a.shape.size a.s.now (a.shape.leaders + 1 - l.counter) l.at more l.invariant.0,
      stamps-room a.shape.size a.s.now (a.shape.leaders + 1 - l.counter) l.stamp more l.invariant.1,
      stamp-next a.roster.now a.s.now a.shape.width a.shape.size _ (a.shape.leaders + 1 - l.counter) l.at l.stamp l.invariant.2 more _ _ place.0 place.1
          (rw (places.0, places.1) at c.stamp_good.ensures) (ap not c.if-not-stamp_good.false),
    )

pub returns-then-shape-eq0 : goal.returns-then-shape-eq0
returns-then-shape-eq0 c =
    let a = c.args in
    let l = c.loop in
    stamps-done a.roster.now a.s.now a.shape.width a.shape.size _ (a.shape.leaders + 1 - l.counter) l.at l.stamp l.invariant.2 (omega arith)

pub overflow_cast-last : goal.overflow_cast-last
overflow_cast-last c =
    let p = c.requires.0 in omega (arith, few-records _ _ p.counted.laid.known)

pub stamp_good-requires-2 : goal.stamp_good-requires-2
stamp_good-requires-2 c =
    let a = c.args in
    let l = c.loop in
    let laid = c.requires.0.counted.laid in
    let t = this a.roster.now a.s.now a.shape.width a.shape.size _ (a.shape.leaders + 1 - l.counter) l.at l.stamp l.invariant.2 (omega arith) in (
      laid.fine,
      laid.known.bounds.width,
      fields-room a.shape.width a.shape.size a.s.now (a.shape.leaders + 1 - l.counter) l.at (omega arith) l.invariant.0,
      t.facts.low,
      t.facts.high,
      omega (arith, stamps-room a.shape.size a.s.now (a.shape.leaders + 1 - l.counter) l.stamp (omega arith) l.invariant.1),
    )

pub returns : goal.returns
returns c =
    let a = c.args in
    let l = c.loop in
    let end = is_last a.roster.now a.s.now a.shape.width a.shape.size _ (a.shape.leaders + 1 - l.counter) l.at l.stamp l.invariant.2 (omega arith) (omega arith) in
    stamp-last a.roster.now a.s.now a.shape.width a.shape.size _ (a.shape.leaders + 1 - l.counter) l.at l.stamp l.invariant.2 (omega arith) _ _
    (ap length end ∙ length-records a.shape.width a.shape.records a.s.now) (c.requires.1 ∙ ap (pointer (with_terms a.shape.width [])) (sym end))
    c.stamp_good-2.ensures (omega arith)
