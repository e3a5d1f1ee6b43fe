-- The first test that fails decides, or else the last.
use mathlib.Core.Path.{ap, ◌∙◌}
use Prim.Native.Nat.{ℕ}
use borrow.Author.Tests.{le-leb, lt-leb}
use lib.Dec.{leb}
use Rattle.refusal.proofs.Laws.{first_fails, first_holds, all_one}
use Rattle.submission.specs.Validate.{leader_most, counted}
use Rattle.submission_trailer.proofs.counts_in_range.Goals as goal

pub returns-else-record_count-le-RECORD_MOST : goal.returns-else-record_count-le-RECORD_MOST
unfolding counted
returns-else-record_count-le-RECORD_MOST c =
    let records = c.record_count.ensures.0 in
    let many = lt-leb _ _ c.if-record_count-le-RECORD_MOST.false in
    many ∙ first_fails _ _ (rw records at many)

pub returns-then-record_count-le-RECORD_MOST : goal.returns-then-record_count-le-RECORD_MOST
unfolding counted
returns-then-record_count-le-RECORD_MOST c =
    let few = rw c.record_count.ensures.0 at (le-leb _ _ c.if-record_count-le-RECORD_MOST.true) in
    ap (λ (n : ℕ). leb n leader_most) c.leader_count.ensures.0 ∙ first_holds _ _ few (all_one _)
