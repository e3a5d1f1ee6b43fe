-- The certificate stands at its distance from the trailer and ends there, so that it is not refused.
use mathlib.Core.Path.{◌≡◌, sym, ◌∙◌}
use Prim.Native.Nat.{◌-◌}
use native.Mathlib.Omega.{arith}
use Rattle.submission.specs.Reading.{commit_from}
use Rattle.submission_parts.proofs.Inside.{standing, commit-inside}
use Rattle.submission_parts.proofs.Readings.{no-commit-passes, commit-says}
use Rattle.submission_parts.proofs.Commits.{absent, found}
use Rattle.submission_parts.proofs.commit_part.Goals as goal

pub returns-then-back-eq0 : goal.returns-then-back-eq0
returns-then-back-eq0 c =
    let a = c.args in
    absent a.width a.size a.s.now (omega arith)

pub overflow_sub-at : goal.overflow_sub-at
overflow_sub-at c =
    let a = c.args in
    let stands = standing a.width a.size a.s.now c.requires.1 in
    omega arith

pub returns-in_err-numbers : goal.returns-in_err-numbers
returns-in_err-numbers c =
    let a = c.args in
    let stands = standing a.width a.size a.s.now c.requires.1 in
    let at = c.trailer_at-end.result - c.distance-back.result in
    let place : at ≡ commit_from a.width a.size a.s.now = omega arith in
    let beyond = no-commit-passes a.size a.s.now at c.trailer_at-end.result (sym c.read_commit.ensures.0 ∙ c.in_err-numbers.was) in
    let inside = commit-inside a.width a.size a.s.now c.requires.1 (λ e. c.if-back-eq0.false (omega arith)) in
    absurd (omega (arith, rw place at beyond))

pub returns : goal.returns
returns c =
    let a = c.args in
    let stands = standing a.width a.size a.s.now c.requires.1 in
    let at = c.trailer_at-end.result - c.distance-back.result in
    let place : at ≡ commit_from a.width a.size a.s.now = omega arith in
    let says = commit-says a.size a.s.now at c.trailer_at-end.result (sym c.read_commit.ensures.0 ∙ c.in_ok-numbers.was) in
    rw (says.0, place) (found a.width a.size a.s.now (λ e. c.if-back-eq0.false (omega arith)))
