-- One record a turn: the terms counted and the distinct ones of the records that are left are all.
use mathlib.Core.Path.{sym, ap}
use mathlib.Core.Bool.{not}
use Prim.Native.Nat.{suc}
use native.Mathlib.Numerals.{add-one}
use native.Mathlib.Omega.{arith}
use borrow.Author.Tests.{le-leb, lt-leb}
use Rattle.log_chain.proofs.Records.{fewer_inside}
use Rattle.log_terms.proofs.Records.{after-all}
use Rattle.log_distinct.specs.Distinct.{distinct}
use Rattle.log_distinct.proofs.Counting.{distinct-again, distinct-new, distinct_none}
use Rattle.log_distinct.proofs.terms_at_most.Goals as goal
use Rattle.log_distinct.proofs.terms_at_most.Goals.{then-not-occurs_after+else-most-count, else-not-occurs_after}

pub loop-i-init : goal.loop-i-init
loop-i-init c =
    let a = c.args in
    (omega arith, omega arith, omega (arith, ap distinct (after-all a.width a.records a.s.now)))

pub last_term-term-requires : goal.last_term-term-requires
last_term-term-requires c =
    let a = c.args in
    (c.requires.0, rw add-one (fewer_inside a.width (suc c.loop-i.i) a.records c.loop-i-test.true c.requires.1))

pub occurs_after-requires : goal.occurs_after-requires
occurs_after-requires c = let p = c.requires in (p.0, omega arith, p.1)

pub returns-then-most-count : goal.returns-then-most-count
returns-then-most-count c =
    let l = c.loop-i in
    let a = c.args in
    let new = distinct-new a.width a.records l.i a.s.now c.last_term-term.ensures c.loop-i-test.true
    c.occurs_after.ensures (ap not c.if-not-occurs_after.true) in
    sym (lt-leb _ a.most (omega (arith, new, l.invariant.2, c.if-most-count.true)))

pub loop-i-preserved : goal.loop-i-preserved
loop-i-preserved c =
    let l = c.loop-i in
    let a = c.args in
    elim c.if-not-occurs_after.branch [
      | then-not-occurs_after+else-most-count w ↦
          let new = distinct-new a.width a.records l.i a.s.now c.last_term-term.ensures c.loop-i-test.true
          c.occurs_after.ensures (ap not w.if-not-occurs_after.true) in
          (omega arith, omega arith, omega (arith, new, l.invariant.2))
      | else-not-occurs_after w ↦
          let again = distinct-again a.width a.records l.i a.s.now c.last_term-term.ensures c.loop-i-test.true
          c.occurs_after.ensures (ap not w.if-not-occurs_after.false) in
          (omega arith, omega arith, omega (arith, again, l.invariant.2))
    ]

pub returns : goal.returns
returns c =
    let l = c.loop-i in
    let a = c.args in
    let none = distinct_none a.width a.records l.i a.s.now c.loop-i-test.false in
    sym (le-leb _ a.most (omega (arith, none, l.invariant.1, l.invariant.2)))
