-- One record a turn: the order of the records that are left, from the term before, is that of all of them.
use mathlib.Core.Path.{ap, ◌∙◌}
use Prim.Native.Nat.{ℕ, suc}
use native.Mathlib.Numerals.{add-one}
use native.Mathlib.Omega.{arith}
use Rattle.log_chain.specs.Ends.{rising}
use Rattle.log_terms.specs.Later.{records_after}
use Rattle.log_terms.proofs.Records.{after-all, record_inside}
use Rattle.log_terms.proofs.Rising.{falls, climbs, risen}
use Rattle.log_terms.proofs.Walks.{record_term}
use Rattle.log_terms.proofs.terms_in_order.Goals as goal

pub loop-i-init : goal.loop-i-init
loop-i-init c =
    let a = c.args in
    ap (rising 1) (after-all a.width a.records a.s.now)

pub term_after-term-requires : goal.term_after-term-requires
term_after-term-requires c =
    let a = c.args in
    (c.requires.0, omega (arith, record_inside a.width c.loop-i.i a.records c.loop-i-test.true, c.requires.1))

pub returns-then-term-low : goal.returns-then-term-low
returns-then-term-low c =
    let l = c.loop-i in
    let a = c.args in
    let term = c.term_after-term.ensures ∙ record_term a.width a.s.now l.i in
    falls a.width a.records l.i l.low a.s.now l.invariant c.loop-i-test.true (rw (← term) c.if-term-low.true)

pub loop-i-preserved : goal.loop-i-preserved
loop-i-preserved c =
    let l = c.loop-i in
    let a = c.args in
    let s = a.s.now in
    let term = c.term_after-term.ensures ∙ record_term a.width s l.i in
    let next = climbs a.width a.records l.i l.low s l.invariant c.loop-i-test.true (rw (← term) c.if-term-low.false) in
    rw add-one (ap (λ (t : ℕ). rising t (records_after a.width a.records (suc l.i) s)) term ∙ next)

pub returns : goal.returns
returns c =
    let l = c.loop-i in
    let a = c.args in
    risen a.width a.records l.i l.low a.s.now l.invariant c.loop-i-test.false
