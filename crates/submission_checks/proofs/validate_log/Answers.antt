-- The terms in order, then their number, then the leaders.
use mathlib.Core.Path.{sym, ◌∙◌}
use borrow.Author.Tests.{eq-eqb, ne_eqb}
use Rattle.refusal.proofs.Laws.{passed, refused, met, unmet}
use Rattle.submission_checks.specs.Checks.{log_checks}
use Rattle.submission_parts.proofs.Shapes.{records-room}
use Rattle.submission_checks.proofs.Facts.{asked-ordered, asked-count}
use mathlib.Core.Path.{ap}
use mathlib.Core.Bool.{not}
use Rattle.submission_checks.proofs.validate_log.Goals as goal

pub terms_in_order-requires : goal.terms_in_order-requires
terms_in_order-requires c = let k = c.requires.known in (k.bounds.width, records-room _ _ k)

pub returns-then-not-terms_in_order : goal.returns-then-not-terms_in_order
unfolding log_checks
returns-then-not-terms_in_order c =
    let order = asked-ordered _ _ c.requires.known c.terms_in_order.ensures in
    record { number = sym (refused 11 _ _ (unmet order (ap not c.if-not-terms_in_order.true))); pointers = tt }

pub run_count-runs-requires : goal.run_count-runs-requires
run_count-runs-requires c = let k = c.requires.known in (k.bounds.width, records-room _ _ k)

pub returns-then-shape-runs : goal.returns-then-shape-runs
unfolding log_checks
returns-then-shape-runs c =
    let known = c.requires.known in
    let order = asked-ordered _ _ known c.terms_in_order.ensures in
    let count = asked-count _ _ known c.run_count-runs.ensures in
    record { number = sym (passed 11 _ _ (met order (ap not c.if-not-terms_in_order.false)) ∙ refused 12 _ _ (count ∙ ne_eqb _ _ c.if-shape-runs.true)); pointers = tt }

pub validate_leaders-requires : goal.validate_leaders-requires
validate_leaders-requires c =
    let laid = c.requires in
    record { laid = laid; count = asked-count _ _ laid.known c.run_count-runs.ensures ∙ eq-eqb _ _ c.if-shape-runs.false }

pub returns : goal.returns
unfolding log_checks
returns c =
    let known = c.requires.known in
    let order = asked-ordered _ _ known c.terms_in_order.ensures in
    let count = asked-count _ _ known c.run_count-runs.ensures in
    let validated = c.validate_leaders.ensures in
    record { number = validated.number ∙ sym (passed 11 _ _ (met order (ap not c.if-not-terms_in_order.false)) ∙ passed 12 _ _ (count ∙ eq-eqb _ _ c.if-shape-runs.false)); pointers = validated.pointers }
