-- One certificate and one term a turn: those that are left give what all of them give.
use mathlib.Core.Path.{◌≡◌, sym, ap, ◌∙◌}
use mathlib.Core.List.{[]}
use Prim.Native.Nat.{◌+◌, ◌-◌, ◌≤◌, ◌<◌}
use native.Mathlib.Nat.{le_trans}
use native.Mathlib.Omega.{arith}
use lib.ListN.{length}
use lib.Seq.{take-nil}
use Rattle.log_chain.specs.Log.{Record, with_terms}
use Rattle.log_chain.specs.Records.{records_of}
use Rattle.submission.specs.Reading.{view}
use Rattle.log_terms.specs.Later.{runs_left}
use Rattle.submission.specs.Validate.{leading}
use Rattle.submission.proofs.Certificates.{certificate-head, first-inside, rest-inside}
use Rattle.submission_parts.proofs.Shapes.{known-leaders, known-stamps, known-leads, stamp-count, run-count, few-records, records-room, upto-room, leaders-room}
use Rattle.submission_leaders.proofs.LeadWalk.{led, lead-fails, lead-next, walked_through}
use Rattle.log_terms.proofs.Walks.{runs-all, runs-some, runs-over}
use mathlib.Core.Bool.{not}
use Rattle.submission_leaders.proofs.leaders_match_log.Goals as goal

pub commit_index-commit-requires : goal.commit_index-commit-requires
commit_index-commit-requires c = let p = c.requires.0 in (p.bounds, p.layout)

pub loop-init : goal.loop-init
unfolding records_of view
loop-init c =
    let a = c.args in
    let p = c.requires in
    let all = runs-all a.shape.width a.shape.records a.s.now in
    let left : a.shape.leaders - 0 ≡ a.shape.leaders = omega arith in
    let begun = c.walk_start-walked.ensures in
    rw (begun.end, left) (
      omega arith,
      sym (run-count _ _ p.0 p.1) ∙ ap length (sym all),
      leaders-room _ _ p.0,
      rw (take-nil {A = Record} c.commit_index-commit.result) (begun.pointed (with_terms a.shape.width [])),
      (λ name. rw (all, ← known-leads _ _ p.0, ← known-leaders _ _ p.0, ← known-stamps _ _ p.0)),
    )

pub next_run-next-requires : goal.next_run-next-requires
next_run-next-requires c =
    let l = c.loop in
    let a = c.args in
    let more : l.walked.end < a.shape.records = runs-some a.shape.width a.shape.records l.walked.end a.s.now (omega (arith, c.loop-test.true, l.invariant.1)) in
    (c.requires.0.bounds.width, more, omega (arith, few-records _ _ c.requires.0), records-room _ _ c.requires.0, l.invariant.3)

pub leading-requires : goal.leading-requires
leading-requires c =
    let l = c.loop in
    let a = c.args in
    let s = a.s.now in
    let inside = first-inside a.shape.width a.shape.size s (a.shape.leaders - l.counter) l.place (omega (arith, c.loop-test.true)) l.invariant.2 in
    (c.requires.0.bounds.width, le_trans (certificate-head a.shape.width a.shape.size s l.place) inside, upto-room _ _ c.requires.0 _ l.invariant.0, upto-room _ _ c.requires.0 _ c.next_run-next.ensures.ends.1, l.invariant.3.last)

pub returns-then-not-leading : goal.returns-then-not-leading
returns-then-not-leading c =
    let l = c.loop in
    let a = c.args in record {
      holds = (λ name.
          lead-fails a.shape.width a.shape.size a.s.now (leading (with_terms a.shape.width name) a.n) (a.shape.leaders - l.counter) l.place (runs_left a.shape.width a.shape.records l.walked.end a.s.now) l.counter _
          (l.invariant.4 name) (omega (arith, c.loop-test.true)) (omega (arith, c.loop-test.true, stamp-count _ _ c.requires.0)) _ _ c.next_run-next.ensures.runs
          (c.leading.ensures name) (ap not c.if-not-leading.true));
      pointers = tt;
    }

pub certificate_end-place-requires : goal.certificate_end-place-requires
certificate_end-place-requires c =
    let l = c.loop in
    let a = c.args in
    (c.requires.0.bounds.width, first-inside a.shape.width a.shape.size a.s.now (a.shape.leaders - l.counter) l.place (omega (arith, c.loop-test.true)) l.invariant.2)

pub loop-preserved : goal.loop-preserved
loop-preserved c =
    let l = c.loop in
    let a = c.args in
    let s = a.s.now in
    let more : 0 < a.shape.leaders - l.counter = omega (arith, c.loop-test.true) in
    let fewer : a.shape.leaders - l.counter - 1 ≡ a.shape.leaders - (l.counter + 1) = omega arith in
    let walked = c.next_run-next.ensures in
    let place = c.certificate_end-place.ensures in (
      walked.ends.1,
      omega (arith, l.invariant.1, ap length walked.runs),
      rw (place, ← fewer) (rest-inside a.shape.width a.shape.size s (a.shape.leaders - l.counter) l.place more l.invariant.2),
      walked.pointed,
      (λ name.
          rw (place, ← fewer)
          (lead-next a.shape.width a.shape.size s (leading (with_terms a.shape.width name) a.n) (a.shape.leaders - l.counter) l.place (runs_left a.shape.width a.shape.records l.walked.end s) l.counter _
          (l.invariant.4 name) more (omega (arith, c.loop-test.true, stamp-count _ _ c.requires.0)) _ _ walked.runs (c.leading.ensures name) (ap not c.if-not-leading.false))),
    )

pub returns : goal.returns
returns c =
    let l = c.loop in
    let a = c.args in
    let s = a.s.now in
    let w = a.shape.width in
    let over : a.shape.records ≤ l.walked.end = runs-over w a.shape.records l.walked.end s (omega (arith, c.loop-test.false, l.invariant.1)) in
    let end : l.walked.end ≡ a.shape.records = omega (arith, over, l.invariant.0) in record {
      holds = (λ name.
          led w a.shape.size s (leading (with_terms w name) a.n) (a.shape.leaders - l.counter) l.place (runs_left w a.shape.records l.walked.end s) l.counter _
          (l.invariant.4 name) (omega (arith, c.loop-test.false)));
      pointers = walked_through a.shape s _ l.walked.end c.requires.0 c.commit_index-commit.ensures end l.invariant.3;
    }
