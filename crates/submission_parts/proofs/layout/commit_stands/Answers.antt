-- Each test that fails ends the check; a certificate that is refused passes the trailer.
use mathlib.Core.Path.{sym, ap, ◌∙◌}
use Prim.Native.Nat.{ℕ}
use native.Mathlib.Omega.{arith}
use lib.Dec.{eqb}
use Rattle.submission.specs.Reading.{commit_end}
use Rattle.submission_parts.proofs.Readings.{no-commit-passes, commit-says}
use Rattle.submission_parts.proofs.Standing.{commit-elsewhere, commit-none, commit-passes, commit-ends}
use Rattle.submission_parts.proofs.layout.commit_stands.Goals as goal

pub returns-then-from-back : goal.returns-then-from-back
returns-then-from-back c =
    let a = c.args in
    commit-elsewhere a.size a.s.now a.from (λ e. c.if-from-back.true (omega arith))

pub returns-then-back-eq0 : goal.returns-then-back-eq0
returns-then-back-eq0 c =
    let a = c.args in
    commit-none a.size a.s.now a.from (omega arith) (omega arith)

pub returns-in_default : goal.returns-in_default
returns-in_default c =
    let a = c.args in
    let end = c.trailer_at-end.result in
    let beyond = no-commit-passes a.size a.s.now a.from end (sym c.read_commit.ensures.0 ∙ c.in_default.is) in
    commit-passes a.size a.s.now a.from (omega arith) (λ e. c.if-back-eq0.false (omega arith)) (omega arith)

pub returns : goal.returns
returns c =
    let a = c.args in
    let end = c.trailer_at-end.result in
    let says = commit-says a.size a.s.now a.from end (sym c.read_commit.ensures.0 ∙ c.in-Some.is) in
    ap (λ (n : ℕ). eqb n end) says.1
    ∙ ap (eqb (commit_end a.size a.s.now a.from)) c.trailer_at-end.ensures
    ∙ commit-ends a.size a.s.now a.from (omega arith) (λ e. c.if-back-eq0.false (omega arith))
