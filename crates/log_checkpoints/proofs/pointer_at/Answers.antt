-- One record a turn, from the checkpoint on: p is the pointer of record k.
use mathlib.Core.Path.{◌≡◌, ◌∙◌}
use Prim.Native.Nat.{suc}
use native.Mathlib.Numerals.{add-one}
use native.Mathlib.Omega.{arith}
use Rattle.log_chain.proofs.Records.{fewer_inside}
use Rattle.log_checkpoints.specs.Checkpoints.{Checkpoints, table_size}
use Rattle.log_checkpoints.proofs.pointer_at.Goals as goal

pub value_at-p-requires : goal.value_at-p-requires
unfolding table_size
value_at-p-requires c = omega (arith, c.requires.4)

pub loop-k-init : goal.loop-k-init
unfolding Checkpoints
loop-k-init c = c.value_at-p.ensures ∙ c.requires.5 _ (omega arith)

pub step-p-requires : goal.step-p-requires
step-p-requires c =
    let a = c.args in
    let l = c.loop-k in
    (c.requires.0, omega arith, rw add-one (fewer_inside a.width (suc l.k) a.records (omega arith) c.requires.2), l.invariant)

pub loop-k-preserved : goal.loop-k-preserved
loop-k-preserved c = c.step-p.ensures

pub returns : goal.returns
returns c =
    let l = c.loop-k in
    let all : l.k ≡ c.args.i = omega arith in
    rw all at l.invariant
