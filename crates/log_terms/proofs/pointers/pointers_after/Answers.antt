-- One record a turn: p has the pointers after record k.
use mathlib.Core.Path.{◌≡◌}
use Prim.Native.Nat.{suc}
use native.Mathlib.Numerals.{add-one}
use native.Mathlib.Omega.{arith}
use Rattle.log_chain.proofs.Records.{fewer_inside}
use Rattle.log_terms.proofs.pointers.pointers_after.Goals as goal

pub loop-k-init : goal.loop-k-init
loop-k-init c = c.requires.4

pub next-p-requires : goal.next-p-requires
next-p-requires c =
    let a = c.args in
    let l = c.loop-k in
    (c.requires.0, omega arith, rw add-one (fewer_inside a.width (suc l.k) a.end c.loop-k-test.true c.requires.3), l.invariant)

pub loop-k-preserved : goal.loop-k-preserved
loop-k-preserved c = c.next-p.ensures

pub returns : goal.returns
returns c =
    let l = c.loop-k in
    let all : l.k ≡ c.args.end = omega arith in
    rw all at l.invariant
