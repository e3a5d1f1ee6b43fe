-- The first test that fails decides, or else the last.
use mathlib.Core.Path.{◌≡◌, sym, ◌∙◌}
use Prim.Native.Nat.{◌+◌, ◌-◌}
use native.Mathlib.Omega.{arith}
use borrow.Author.Tests.{eqb-true, eqb-false}
use lib.ListN.{take, drop}
use Rattle.words.proofs.Same.{pointwise_same}
use Rattle.sha256.specs.Sha256.{bytes_of}
use Rattle.submission.specs.Reading.{ballot_size, ballot_at}
use Rattle.log_chain.specs.Records.{records_of}
use Rattle.log_chain.proofs.Records.{length-records}
use Rattle.submission.proofs.Places.{last-term-at, last-index-at, last-pointer-at}
use Rattle.submission_leaders.proofs.Leads.{other-term, other-index, by-pointer}
use Rattle.submission_leaders.proofs.follows.Goals.{then-number_at-last_term, else-number_at-last_term}
use Rattle.submission_leaders.proofs.follows.Goals as goal

pub number_at-requires : goal.number_at-requires
unfolding ballot_size
number_at-requires c = (omega (arith, c.requires.1), c.requires.0)

pub u32_at-requires : goal.u32_at-requires
unfolding ballot_size
u32_at-requires c = omega (arith, c.requires.1)

pub slice_bounds-eq-end : goal.slice_bounds-eq-end
unfolding ballot_size
slice_bounds-eq-end c = omega (arith, c.requires.1)

pub returns-then-u32_at-i : goal.returns-then-u32_at-i
returns-then-u32_at-i c =
    let a = c.args in
    let s = a.s.now in
    let w = a.width in
    let start = a.at + 2 + w + w + 4 in
    let whole : start + 32 - start ≡ 32 = omega arith in
    let told = c.eq.ensures ∙ pointwise_same (take (start + 32 - start) (drop start s)) c.bytes.result in
    let test = rw (c.bytes.ensures, whole, last-pointer-at w s a.at) at told in
    elim c.if-number_at-last_term.branch [
      | then-number_at-last_term t ↦
          (let term = sym (c.number_at.ensures.0 ∙ last-term-at w s a.at) ∙ t.if-number_at-last_term.true ∙ c.last_term.ensures in
          let index = sym (t.u32_at.ensures.0 ∙ last-index-at w s a.at) ∙ eqb-true _ _ (sym t.value-is ∙ c.if-u32_at-i.true) ∙ sym (length-records w a.i s) in
          test ∙ by-pointer (ballot_at w s a.at) (records_of w a.i s) (bytes_of a.before) term index)
      | else-number_at-last_term t ↦ absurd (t.if-number_at-last_term.false (eqb-true _ _ (sym t.value-is ∙ c.if-u32_at-i.true)))
    ]

pub returns-else-u32_at-i : goal.returns-else-u32_at-i
returns-else-u32_at-i c =
    let a = c.args in
    let s = a.s.now in
    let w = a.width in
    let read = c.number_at.ensures.0 ∙ last-term-at w s a.at in
    c.if-u32_at-i.false
    ∙ elim c.if-number_at-last_term.branch [
      | then-number_at-last_term t ↦
          other-index (ballot_at w s a.at) (records_of w a.i s) (bytes_of a.before) (sym read ∙ t.if-number_at-last_term.true ∙ c.last_term.ensures)
          (λ e. eqb-false _ _ (sym t.value-is ∙ c.if-u32_at-i.false) (t.u32_at.ensures.0 ∙ last-index-at w s a.at ∙ e ∙ length-records w a.i s))
      | else-number_at-last_term t ↦
          other-term (ballot_at w s a.at) (records_of w a.i s) (bytes_of a.before) (λ e. t.if-number_at-last_term.false (read ∙ e ∙ sym c.last_term.ensures))
    ]
