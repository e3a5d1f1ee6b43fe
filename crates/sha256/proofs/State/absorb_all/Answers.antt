-- One block a turn: what is left of the bytes gives what all of them give.
use mathlib.Core.Path.{◌≡◌, sym, ap, ◌∙◌}
use Prim.Native.Nat.{◌<◌}
use native.Mathlib.Omega.{arith}
use lib.ListN.{length}
use Rattle.std.specs.Slice.Iter.{chunks_exact_rest}
use Rattle.sha256.specs.Sha256.{hash}
use Rattle.sha256.proofs.Blocks.{hash_block, hash_end}
use Rattle.sha256.proofs.State.absorb_all.Goals as goal

pub loop-block-preserved : goal.loop-block-preserved
loop-block-preserved c =
    let l = c.loop-block in
    let block = c.in-Some.block.now in
    let rest = chunks_exact_rest c.next.new.self in
    let steps = c.in-Some.ensures.steps in
    let long : length block ≡ 64 = steps.1.1 ∙ l.invariant.0 in
    let all = sym (hash_block l.s block rest long) ∙ ap (hash l.s) (sym steps.1.0) ∙ l.invariant.1 in
    (steps.0 ∙ l.invariant.0, rw (c.absorb-s.ensures, c.block_at.ensures) all)

pub returns : goal.returns
returns c =
    let l = c.loop-block in
    let rest = chunks_exact_rest l.block-iterator in
    let steps = c.in-None.ensures.steps in
    let few : length rest < 64 = omega (arith, steps.1.0, l.invariant.0) in
    sym (hash_end l.s rest few) ∙ l.invariant.1
