-- One record a turn: the term has not ended before record `end`, whose term is the first record's.
use mathlib.Core.Path.{◌≡◌, sym, ◌∙◌}
use native.Mathlib.Numerals.{add-one}
use native.Mathlib.Omega.{arith}
use Rattle.log_terms.proofs.Records.{records-last, record_inside}
use Rattle.log_terms.proofs.Walks.{record_term, starts, goes, ends, ends-log}
use Rattle.log_terms.proofs.run_end.Goals as goal

pub term_after-term-requires : goal.term_after-term-requires
term_after-term-requires c =
    let a = c.args in
    let here = c.requires in
    (here.0, omega (arith, record_inside a.width a.i a.records here.1, here.2))

pub loop-end-init : goal.loop-end-init
loop-end-init c =
    let a = c.args in
    let s = a.s.now in
    let first = c.term_after-term.ensures ∙ record_term a.width s a.i ∙ sym (records-last a.width a.i s) in
    rw add-one (first, starts a.width a.records a.i s c.requires.1)

pub term_after-requires : goal.term_after-requires
term_after-requires c =
    let a = c.args in
    (c.requires.0, omega (arith, record_inside a.width c.loop-end.end a.records c.loop-end-test.true, c.requires.2))

pub returns-then-term_after-term : goal.returns-then-term_after-term
returns-then-term_after-term c =
    let l = c.loop-end in
    let a = c.args in
    let s = a.s.now in
    let here = c.term_after.ensures ∙ record_term a.width s l.end in (
      omega arith,
      omega arith,
      ends a.width a.records a.i s l.end l.invariant.1 c.loop-end-test.true
          (λ e. c.if-term_after-term.true (here ∙ e ∙ sym l.invariant.0)),
    )

pub loop-end-preserved : goal.loop-end-preserved
loop-end-preserved c =
    let l = c.loop-end in
    let a = c.args in
    let s = a.s.now in
    let here = sym (c.term_after.ensures ∙ record_term a.width s l.end) ∙ c.if-term_after-term.false in
    rw add-one (
      sym here ∙ sym (records-last a.width l.end s),
      goes a.width a.records a.i s l.end l.invariant.1 c.loop-end-test.true (here ∙ l.invariant.0),
    )

pub returns : goal.returns
returns c =
    let l = c.loop-end in
    let a = c.args in
    let all : l.end ≡ a.records = omega arith in
    (omega arith, omega arith, rw all at (ends-log a.width a.records a.i a.s.now l.end l.invariant.1 c.loop-end-test.false))
