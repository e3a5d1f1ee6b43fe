-- The first test that fails decides, or else the last.
use mathlib.Core.Path.{sym, ap, ◌∙◌}
use Prim.Native.Nat.{ℕ, ◌+◌}
use native.Mathlib.Omega.{arith}
use borrow.Author.Tests.{leb-true, leb-false}
use Rattle.words.specs.BigEndian.{number_at}
use Rattle.roster.specs.Masks.{signer}
use Rattle.submission.specs.Reading.{ballot_size, signers_at}
use Rattle.submission.proofs.Places.{candidate-at, signers-at}
use Rattle.submission_leaders.proofs.Leads.{no-replica, above-replicas, by-signer}
use Rattle.submission_leaders.proofs.elected.Goals.{then-candidate-ge1, else-candidate-ge1}
use Rattle.submission_leaders.proofs.elected.Goals as goal

pub overflow_add-at : goal.overflow_add-at
overflow_add-at c = omega (arith, c.requires.1, c.ballot_size.ensures.0)

pub u16_at-signers-requires : goal.u16_at-signers-requires
u16_at-signers-requires c = omega (arith, c.requires.1, c.ballot_size.ensures.0)

pub returns-else-replica : goal.returns-else-replica
returns-else-replica c =
    let a = c.args in
    let s = a.s.now in
    let who = c.u16_at-candidate.ensures.0 ∙ candidate-at a.width s a.at in
    c.if-replica.false
    ∙ elim c.if-candidate-ge1.branch [
      | then-candidate-ge1 t ↦
          above-replicas a.n (signers_at s (a.at + ballot_size a.width)) _ (rw (← who) t.if-candidate-ge1.true)
          (rw (← who) (leb-false _ _ (sym t.replica-is ∙ c.if-replica.false)))
      | else-candidate-ge1 t ↦ no-replica a.n (signers_at s (a.at + ballot_size a.width)) _ (rw (← who) t.if-candidate-ge1.false)
    ]

pub returns-then-replica : goal.returns-then-replica
returns-then-replica c =
    let a = c.args in
    let s = a.s.now in
    let w = a.width in
    let who = c.u16_at-candidate.ensures.0 ∙ candidate-at w s a.at in
    let mask = c.u16_at-signers.ensures.0 ∙ ap (λ (z : ℕ). number_at 2 s (a.at + z)) c.ballot_size.ensures.0 ∙ signers-at w s a.at in
    c.signer.ensures
    ∙ ap (λ (m : ℕ). signer m c.u16_at-candidate.result) mask
    ∙ ap (signer (signers_at s (a.at + ballot_size w))) who
    ∙ elim c.if-candidate-ge1.branch [
      | then-candidate-ge1 t ↦
          by-signer a.n (signers_at s (a.at + ballot_size w)) _ (rw (← who) t.if-candidate-ge1.true)
          (rw (← who) (leb-true _ _ (sym t.replica-is ∙ c.if-replica.true)))
      | else-candidate-ge1 t ↦ absurd (omega (arith, t.if-candidate-ge1.false, leb-true _ _ (sym t.replica-is ∙ c.if-replica.true)))
    ]
