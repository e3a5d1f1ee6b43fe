-- One row a turn: those that are left give what all of them give.
use mathlib.Core.Path.{◌≡◌, sym, ◌∙◌}
use Prim.Native.Nat.{◌-◌}
use native.Mathlib.Nat.{sub-zero}
use native.Mathlib.Omega.{arith}
use Rattle.assembly_choice.specs.Settled.{all_taken}
use Rattle.assembly_choice.proofs.Rows.{taken_none, taken_next}
use Rattle.assembly_choice.proofs.all_taken.Goals as goal

pub loop-t-init : goal.loop-t-init
loop-t-init c = rw sub-zero

pub returns-then-taken-t-eq0 : goal.returns-then-taken-t-eq0
returns-then-taken-t-eq0 c =
    let l = c.loop-t in
    let a = c.args in
    sym (taken_none a.count l.t (omega arith) a.taken.now c.if-taken-t-eq0.true) ∙ l.invariant

pub loop-t-preserved : goal.loop-t-preserved
loop-t-preserved c =
    let l = c.loop-t in
    let a = c.args in
    sym (taken_next a.count l.t (omega arith) a.taken.now c.if-taken-t-eq0.false) ∙ l.invariant

pub returns : goal.returns
unfolding all_taken
returns c =
    let l = c.loop-t in
    let a = c.args in
    let end : a.count - l.t ≡ 0 = omega arith in
    rw end at l.invariant
