-- The roster first, then the lengths' count and sum, then the report; only after them is anything written.
use mathlib.Core.Path.{sym, ap}
use mathlib.Core.Bool.{not}
use native.Mathlib.Omega.{arith}
use borrow.Author.Rules.{rules}
use Rattle.std.proofs.lemmas.Result.{err_from_is_err_and}
use Rattle.refusal.proofs.Laws.{met, unmet}
use Rattle.refusal.proofs.Refusals.{number-nonzero}
use Rattle.district_parts.proofs.Parts.{counted-most}
use Rattle.audit_district.proofs.Run.{unwritten, written, roster-first, number-17, number-18, number-1, number-0}
use Rattle.audit_district.proofs.audit.Goals as goal

pub returns-in_err-validate : goal.returns-in_err-validate
returns-in_err-validate c =
    let a = c.args in
    let refused = number-nonzero c.in_err-validate.field-0.0 in
    let r = roster-first a.roster.now a.buffer.now a.lengths.now a.report.now c.in_err-validate.ensures refused in
    let exit = err_from_is_err_and c.from_residual.result c.from_residual.ensures.1 in
    rw (exit.1, exit.2) record { number = r; bytes = unwritten _ _ _ _ r refused }

pub returns-then-not-count_in_range : goal.returns-then-not-count_in_range
returns-then-not-count_in_range c =
    let a = c.args in
    let fine = sym c.in_ok-validate.ensures in
    let r = number-17 a.roster.now a.buffer.now a.lengths.now a.report.now fine (unmet c.count_in_range.ensures (ap not c.if-not-count_in_range.true)) in
    record { number = r; bytes = unwritten _ _ _ _ r (λ z. omega (arith, z)) }

pub returns-then-not-lengths_add_up : goal.returns-then-not-lengths_add_up
returns-then-not-lengths_add_up c =
    let a = c.args in
    let fine = sym c.in_ok-validate.ensures in
    let count = met c.count_in_range.ensures (ap not c.if-not-count_in_range.false) in
    let r = number-18 a.roster.now a.buffer.now a.lengths.now a.report.now fine count (unmet c.lengths_add_up.ensures (ap not c.if-not-lengths_add_up.true)) in
    record { number = r; bytes = unwritten _ _ _ _ r (λ z. omega (arith, z)) }

pub overflow_add-lengths : goal.overflow_add-lengths
overflow_add-lengths c =
    let a = c.args in
    let few = counted-most a.lengths.now (met c.count_in_range.ensures (ap not c.if-not-count_in_range.false)) in
    search (rules, few)

pub returns-then-report-lengths : goal.returns-then-report-lengths
returns-then-report-lengths c =
    let a = c.args in
    let fine = sym c.in_ok-validate.ensures in
    let count = met c.count_in_range.ensures (ap not c.if-not-count_in_range.false) in
    let whole = met c.lengths_add_up.ensures (ap not c.if-not-lengths_add_up.false) in
    let r = number-1 a.roster.now a.buffer.now a.lengths.now a.report.now fine count whole (search rules) in
    record { number = r; bytes = unwritten _ _ _ _ r (λ z. omega (arith, z)) }

pub write-requires : goal.write-requires
write-requires c = (
  sym c.in_ok-validate.ensures,
  met c.count_in_range.ensures (ap not c.if-not-count_in_range.false),
  met c.lengths_add_up.ensures (ap not c.if-not-lengths_add_up.false),
  search rules,
)

pub returns : goal.returns
returns c =
    let a = c.args in
    let fine = sym c.in_ok-validate.ensures in
    let count = met c.count_in_range.ensures (ap not c.if-not-count_in_range.false) in
    let whole = met c.lengths_add_up.ensures (ap not c.if-not-lengths_add_up.false) in
    let r = number-0 a.roster.now a.buffer.now a.lengths.now a.report.now fine count whole (search rules) in
    record { number = r; bytes = written _ _ _ _ r c.write.ensures }
