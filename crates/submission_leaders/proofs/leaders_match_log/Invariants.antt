-- One certificate and one term a turn: those that are left give what all of them give.
use mathlib.Core.Path.{◌≡◌}
use mathlib.Core.List.{List}
use Prim.Native.Nat.{ℕ, ◌-◌, ◌≤◌}
use lib.ListN.{length, drop}
use Rattle.refusal.specs.Checks.{every}
use Rattle.log_chain.specs.Log.{with_terms}
use Rattle.submission.specs.View.{leads_of, leads}
use Rattle.submission.specs.Reading.{certificates, certificates_end, view}
use Rattle.log_terms.specs.Later.{runs_left}
use Rattle.log_terms.specs.Pointed.{PointersCarried}
use Rattle.submission.specs.Validate.{leading}
use Rattle.submission_leaders.proofs.leaders_match_log.Given as goal

abbrev pub invariant-loop : goal.invariant-loop
invariant-loop l =
    let w = l.shape.width in
    let S = l.shape.size in
    let i = l.walked.end in
    let left = l.shape.leaders - l.counter in
    (i ≤ l.shape.records) × (left ≡ length (runs_left w l.shape.records i l.s)) × (certificates_end w S l.s left l.place ≤ length l.s)
    × PointersCarried w l.commit i l.s l.walked.pointers
    × ((name : List ℕ)
    → every (leading (with_terms w name) l.n) (leads_of (certificates w S l.s left l.place) (runs_left w l.shape.records i l.s) (drop l.counter (view w S l.s).stamps))
    ≡ every (leading (with_terms w name) l.n) (leads (view w S l.s)))
