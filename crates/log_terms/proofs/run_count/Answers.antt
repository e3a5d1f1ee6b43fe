-- One term a turn: the terms counted and those that are left are all.
use mathlib.Core.Path.{ap}
use native.Mathlib.Omega.{arith}
use lib.ListN.{length}
use Rattle.log_terms.proofs.Walks.{runs-all, runs_none}
use Rattle.log_terms.proofs.run_count.Goals as goal

pub loop-i-init : goal.loop-i-init
loop-i-init c =
    let a = c.args in
    (omega arith, omega arith, omega (arith, ap length (runs-all a.width a.records a.s.now)))

pub run_end-i-requires : goal.run_end-i-requires
run_end-i-requires c = let here = c.requires in (here.0, c.loop-i-test.true, here.1)

pub loop-i-preserved : goal.loop-i-preserved
loop-i-preserved c =
    (c.run_end-i.ensures.1, omega (arith, c.run_end-i.ensures.0), omega (arith, ap length c.run_end-i.ensures.2, c.loop-i.invariant.2))

pub returns : goal.returns
returns c =
    let l = c.loop-i in
    let a = c.args in
    omega (arith, ap length (runs_none a.width a.records l.i a.s.now c.loop-i-test.false), l.invariant.2)
