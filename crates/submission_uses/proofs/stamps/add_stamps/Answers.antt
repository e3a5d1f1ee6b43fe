-- One leader certificate a turn, with the next one's last index and pointer, which are its term's last record; the last term's are the log's.
use mathlib.Core.Path.{◌≡◌, refl, sym, ap, ◌∙◌}
use mathlib.Core.List.{[]}
use Prim.Native.Nat.{◌+◌, ◌-◌, ◌<◌}
use native.Mathlib.Omega.{arith}
use lib.ListN.{length}
use Rattle.log_chain.specs.Log.{with_terms, pointer}
use Rattle.log_chain.specs.Records.{records_of}
use Rattle.log_chain.specs.Runs.{runs}
use Rattle.log_chain.proofs.Linked.{linked_runs}
use Rattle.log_chain.proofs.Records.{length-records}
use Rattle.submission.proofs.Certificates.{rest-inside, first-inside}
use Rattle.submission.proofs.Linked.{leads_from}
use Rattle.submission_parts.proofs.Shapes.{known-leads, run-count, few-records, leaders-room, stamps-room as stamps-inside}
use Rattle.submission_signatures.proofs.Turns.{fields-room, next-fields, stamps-room}
use Rattle.submission_signatures.proofs.StampsLeft.{not_last, is_last}
use Rattle.submission_leaves.specs.Entries.{entry_uses}
use Rattle.submission_uses.proofs.StampUses.{none-to-put, checked, stamp-put}
use Rattle.submission_uses.proofs.stamps.add_stamps.Goals as goal

pub loop-init : goal.loop-init
unfolding leads_from
loop-init c =
    let a = c.args in
    let given = c.requires.0 in
    let known = given.counted.laid.known in
    let log = records_of a.shape.width a.shape.records a.s.now in
    let all = known-leads _ _ known in
    let left : a.shape.leaders + 1 - 1 ≡ a.shape.leaders = omega arith in
    rw left (
      leaders-room _ _ known,
      stamps-inside _ _ known,
      omega arith,
      refl,
      λ wide. record {
        before = [];
        runs = runs log;
        terms = record { linked = linked_runs log; count = run-count _ _ known given.counted.count; leaders = rw all given.leaders };
        answer = rw all;
      },
    )

pub certificate_end-next-requires : goal.certificate_end-next-requires
certificate_end-next-requires c =
    let a = c.args in
    let l = c.loop in
    (c.requires.0.counted.laid.known.bounds.width, first-inside a.shape.width a.shape.size a.s.now (a.shape.leaders + 1 - l.counter) l.at (omega arith) l.invariant.0)

pub stamp_before-part-requires : goal.stamp_before-part-requires
stamp_before-part-requires c =
    let a = c.args in
    let l = c.loop in
    (c.requires.0.counted.laid.known.bounds.width, rw c.certificate_end-next.ensures (next-fields _ _ _ (a.shape.leaders + 1 - l.counter) l.at (omega arith) l.invariant.0))

pub add_stamp-count-requires : goal.add_stamp-count-requires
add_stamp-count-requires c =
    let l = c.loop in
    let a = c.args in
    let p = c.requires in
    let laid = p.0.counted.laid in
    let places = c.stamp_before-part.ensures.places in
    rw (places.0, places.1) (
      laid.fine,
      laid.known.bounds.width,
      fields-room a.shape.width a.shape.size a.s.now (a.shape.leaders + 1 - l.counter) l.at (omega arith) l.invariant.0,
      omega (arith, p.1, stamps-room a.shape.size a.s.now (a.shape.leaders + 1 - l.counter) l.stamp (omega arith) l.invariant.1),
      omega (arith, l.invariant.2, l.invariant.3, p.3),
    )

pub overflow_add-stamp : goal.overflow_add-stamp
overflow_add-stamp c =
    let l = c.loop in
    let a = c.args in
    omega (arith, c.requires.0.counted.laid.known.bounds.short, stamps-room a.shape.size a.s.now (a.shape.leaders + 1 - l.counter) l.stamp (omega arith) l.invariant.1)

pub loop-preserved : goal.loop-preserved
loop-preserved c =
    let put = c.add_stamp-count in
    let l = c.loop in
    let a = c.args in
    let w = a.shape.width in
    let S = a.shape.size in
    let next = c.certificate_end-next.ensures in
    let now = entry_uses l.count l.buffer in
    let part = c.stamp_before-part in
    let more : 0 < a.shape.leaders + 1 - l.counter = omega arith in
    let fewer : a.shape.leaders + 1 - l.counter - 1 ≡ a.shape.leaders + 1 - (l.counter + 1) = omega arith in
    rw (next, ← fewer) (
      rest-inside w S a.s.now (a.shape.leaders + 1 - l.counter) l.at more l.invariant.0,
      stamps-room S a.s.now (a.shape.leaders + 1 - l.counter) l.stamp more l.invariant.1,
      omega (arith, l.invariant.2, put.ensures.few),
      put.auto.buffer ∙ l.invariant.3,
      λ wide.
          let left = l.invariant.4 wide in
          let place = not_last a.roster.now a.s.now w S _ (a.shape.leaders + 1 - l.counter) l.at l.stamp
          (checked a.roster.now a.s.now w S a.k wide _ _ now (a.shape.leaders + 1 - l.counter) l.at l.stamp left more) more (omega arith) _ _ _
          next part.ensures.index part.ensures.pointer in
          stamp-put a.roster.now a.s.now w S a.k wide _ _ now (a.shape.leaders + 1 - l.counter) l.at l.stamp left more part.result part.ensures.places.0 part.ensures.places.1 place.0 place.1 put.ensures.uses,
    )

pub shape_of-buffer-then-shape-eq0 : goal.shape_of-buffer-then-shape-eq0
shape_of-buffer-then-shape-eq0 c = c.loop.invariant.3

pub returns-then-shape-eq0 : goal.returns-then-shape-eq0
returns-then-shape-eq0 c =
    let l = c.loop in
    let a = c.args in record { few = omega (arith, l.invariant.2); uses = none-to-put a.roster.now a.s.now a.shape.width a.shape.size a.k c.requires.1 _ _ _ (a.shape.leaders + 1 - l.counter) l.at l.stamp (l.invariant.4 c.requires.1) (omega arith) }

pub overflow_cast-last : goal.overflow_cast-last
overflow_cast-last c =
    let p = c.requires in omega (arith, few-records _ _ p.0.counted.laid.known)

pub add_stamp-requires : goal.add_stamp-requires
add_stamp-requires c =
    let l = c.loop in
    let a = c.args in
    let p = c.requires in
    let laid = p.0.counted.laid in (
      laid.fine,
      laid.known.bounds.width,
      fields-room a.shape.width a.shape.size a.s.now (a.shape.leaders + 1 - l.counter) l.at (omega arith) l.invariant.0,
      omega (arith, p.1, stamps-room a.shape.size a.s.now (a.shape.leaders + 1 - l.counter) l.stamp (omega arith) l.invariant.1),
      omega (arith, l.invariant.2, l.invariant.3, p.3),
    )

pub shape_of-buffer : goal.shape_of-buffer
shape_of-buffer c =
    c.add_stamp.auto.buffer ∙ c.loop.invariant.3

pub returns : goal.returns
returns c =
    let put = c.add_stamp in
    let l = c.loop in
    let a = c.args in
    let p = c.requires in
    let w = a.shape.width in
    let S = a.shape.size in
    let wide = p.1 in
    let now = entry_uses l.count l.buffer in
    let left = l.invariant.4 wide in
    let as-checked = checked a.roster.now a.s.now w S a.k wide _ _ now (a.shape.leaders + 1 - l.counter) l.at l.stamp left (omega arith) in
    let end = is_last a.roster.now a.s.now w S _ (a.shape.leaders + 1 - l.counter) l.at l.stamp as-checked (omega arith) (omega arith) in
    let last = stamp-put a.roster.now a.s.now w S a.k wide _ _ now (a.shape.leaders + 1 - l.counter) l.at l.stamp left (omega arith) _ refl refl
    (ap length end ∙ length-records w a.shape.records a.s.now) (p.2 ∙ ap (pointer (with_terms w [])) (sym end)) put.ensures.uses in record { few = omega (arith, l.invariant.2, put.ensures.few); uses = none-to-put a.roster.now a.s.now w S a.k wide _ _ _ _ _ _ last (omega arith) }
