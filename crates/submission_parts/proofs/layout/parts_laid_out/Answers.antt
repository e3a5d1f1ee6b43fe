-- The first test that fails decides, and after the second the later parts do.
use mathlib.Core.Path.{sym, ap, ◌∙◌}
use Prim.Native.Nat.{ℕ}
use native.Mathlib.Omega.{arith}
use borrow.Author.Tests.{eqb-true, eqb-false}
use Rattle.refusal.specs.Checks.{all}
use Rattle.log_chain.specs.Records.{record_size}
use Rattle.submission.specs.Trailer.{record_count}
use Rattle.submission.specs.Reading.{leaders_from}
use Rattle.submission_parts.specs.Parts.{leader_tests}
use Rattle.submission_parts.proofs.Inside.{records-le}
use Rattle.submission_parts.proofs.Standing.{records-elsewhere, leaders-elsewhere, leaders-here}
use Rattle.submission_parts.proofs.layout.parts_laid_out.Goals.{then-distance-end, else-distance-end}
use Rattle.submission_parts.proofs.layout.parts_laid_out.Goals as goal

pub overflow_add-from : goal.overflow_add-from
unfolding record_size
overflow_add-from c =
    let a = c.args in
    let few = records-le (record_size a.width) (record_count a.s.now) (omega (arith, c.requires.width)) c.requires.records in
    omega (arith, few, c.leaders_from-from.ensures)

pub returns-else-from-distance : goal.returns-else-from-distance
unfolding leaders_from
returns-else-from-distance c =
    let a = c.args in
    c.if-from-distance.false
    ∙ elim c.if-distance-end.branch [
      | then-distance-end t ↦
          leaders-elsewhere a.width a.size a.s.now (omega arith)
          (λ e. eqb-false _ _ (sym t.value-is ∙ c.if-from-distance.false) (omega (arith, e, c.leaders_from-from.ensures, t.distance-then-distance-end.ensures.0, c.trailer_at-end.ensures)))
      | else-distance-end t ↦ records-elsewhere a.width a.size a.s.now (λ e. t.if-distance-end.false (omega arith))
    ]

pub returns-then-from-distance : goal.returns-then-from-distance
unfolding leaders_from
returns-then-from-distance c =
    let a = c.args in
    let from = ap (λ (n : ℕ). all (leader_tests a.width a.size a.s.now n)) c.leaders_from-from.ensures in
    elim c.if-distance-end.branch [
      | then-distance-end t ↦
          (let second = eqb-true _ _ (sym t.value-is ∙ c.if-from-distance.true) in
          leaders-here a.width a.size a.s.now (omega arith) (omega (arith, second, c.leaders_from-from.ensures, t.distance-then-distance-end.ensures.0, c.trailer_at-end.ensures))
          (c.leaders_stand.ensures ∙ from))
      | else-distance-end t ↦ absurd (t.if-distance-end.false (eqb-true _ _ (sym t.value-is ∙ c.if-from-distance.true)))
    ]
