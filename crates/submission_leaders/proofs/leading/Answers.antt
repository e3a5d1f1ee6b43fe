-- The first test that fails decides, or else the last.
use mathlib.Core.Path.{sym, ◌∙◌}
use native.Mathlib.Omega.{arith}
use borrow.Author.Tests.{eqb-true}
use Rattle.sha256.specs.Sha256.{bytes_of}
use Rattle.submission.specs.Reading.{ballot_size, certificate_at}
use Rattle.log_chain.specs.Records.{records_of}
use Rattle.submission.proofs.Places.{term-at}
use Rattle.submission_leaders.proofs.Leads.{wrong-term, wrong-last, by-election}
use Rattle.submission_leaders.proofs.leading.Goals.{then-number_at-last_term, else-number_at-last_term}
use Rattle.submission_leaders.proofs.leading.Goals as goal

pub number_at-requires : goal.number_at-requires
unfolding ballot_size
number_at-requires c = (omega (arith, c.requires.1), c.requires.0)

pub returns-else-follows : goal.returns-else-follows
unfolding certificate_at
returns-else-follows c name stamp =
    let a = c.args in
    let s = a.s.now in
    let read = c.number_at.ensures.0 ∙ term-at a.width s a.at in
    c.if-follows.false
    ∙ elim c.if-number_at-last_term.branch [
      | then-number_at-last_term t ↦
          wrong-last a.width name a.n (certificate_at a.width s a.at) (records_of a.width a.i s) (records_of a.width a.end s) stamp (bytes_of a.before) c.requires.4
          (sym read ∙ t.if-number_at-last_term.true ∙ c.last_term.ensures)
          (sym t.follows.ensures ∙ sym t.value-is ∙ c.if-follows.false)
      | else-number_at-last_term t ↦
          wrong-term a.width name a.n (certificate_at a.width s a.at) (records_of a.width a.i s) (records_of a.width a.end s) stamp
          (λ e. t.if-number_at-last_term.false (read ∙ e ∙ sym c.last_term.ensures))
    ]

pub returns-then-follows : goal.returns-then-follows
unfolding certificate_at
returns-then-follows c name stamp =
    let a = c.args in
    let s = a.s.now in
    c.elected.ensures
    ∙ elim c.if-number_at-last_term.branch [
      | then-number_at-last_term t ↦
          by-election a.width name a.n (certificate_at a.width s a.at) (records_of a.width a.i s) (records_of a.width a.end s) stamp (bytes_of a.before) c.requires.4
          (sym (c.number_at.ensures.0 ∙ term-at a.width s a.at) ∙ t.if-number_at-last_term.true ∙ c.last_term.ensures)
          (sym t.follows.ensures ∙ sym t.value-is ∙ c.if-follows.true)
      | else-number_at-last_term t ↦ absurd (t.if-number_at-last_term.false (eqb-true _ _ (sym t.value-is ∙ c.if-follows.true)))
    ]
