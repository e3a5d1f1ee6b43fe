-- What is left after the first lengths is the sum of the others just where the whole is the sum of all.
use mathlib.Core.Path.{◌≡◌, refl, sym, ◌∙◌}
use Prim.Native.Nat.{suc, ◌+◌}
use native.Mathlib.Omega.{arith}
use Rattle.district_parts.specs.Parts.{adds_up}
use Rattle.district_parts.proofs.Sums.{too_long_lem, taken, all-taken}
use Rattle.district_parts.proofs.lengths_add_up.Goals as goal

pub loop-size-init : goal.loop-size-init
unfolding adds_up
loop-size-init c = refl

pub returns-in_default : goal.returns-in_default
returns-in_default c =
    let l = c.loop-size in
    sym (too_long_lem c.args.lengths.now l.size-index l.left c.loop-size-test.true (omega (arith, c.in_default.ensures))) ∙ l.invariant

pub loop-size-preserved : goal.loop-size-preserved
loop-size-preserved c =
    let l = c.loop-size in
    let rest = c.in-Some.ensures in
    let next : suc l.size-index ≡ l.size-index + 1 = omega arith in
    rw (rest.1, ← next) (taken c.args.lengths.now l.size-index l.left c.loop-size-test.true rest.0 ∙ l.invariant)

pub returns : goal.returns
returns c =
    let l = c.loop-size in
    all-taken c.args.lengths.now l.size-index l.left c.loop-size-test.false ∙ l.invariant
