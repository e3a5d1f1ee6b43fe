-- A certificate whose fields pass the end is refused, and so is one whose signatures do.
use mathlib.Core.Path.{ap, ◌∙◌}
use Prim.Native.Nat.{ℕ, ◌*◌}
use native.Mathlib.Omega.{arith}
use lib.Count.{ones}
use Rattle.submission.specs.Reading.{signers_at, commit_at, commit_end}
use Rattle.submission_parts.specs.Reader.{commit_numbers_at}
use Rattle.submission_parts.proofs.Readings.{commit-fields}
use Rattle.submission_parts.proofs.Readings.{commit-numbered, no-commit, read-commit}
use Rattle.submission_parts.proofs.read_commit.Goals as goal

pub returns-then-end-at : goal.returns-then-end-at
returns-then-end-at c =
    let a = c.args in
    commit-numbered a.size a.s.now a.at a.end
    (no-commit a.size a.s.now a.at a.end (omega (arith, commit-fields a.size a.s.now a.at)))

pub returns-then-end-next : goal.returns-then-end-next
unfolding commit_end signers_at
returns-then-end-next c =
    let a = c.args in
    let next = c.signatures_size.ensures.0 ∙ ap (λ (mask : ℕ). a.size * ones mask) c.u16_at-signers.ensures.0 in
    commit-numbered a.size a.s.now a.at a.end (no-commit a.size a.s.now a.at a.end (omega arith))

pub returns : goal.returns
unfolding commit_end commit_numbers_at commit_at signers_at
returns c =
    let a = c.args in
    let mask = c.u16_at-signers.ensures.0 in
    let next = c.signatures_size.ensures.0 ∙ ap (λ (mask : ℕ). a.size * ones mask) mask in
    commit-numbered a.size a.s.now a.at a.end
    (rw (c.u32_at-index.ensures.0, next, mask) (read-commit a.size a.s.now a.at a.end (omega arith)))
