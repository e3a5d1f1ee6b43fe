-- One level a turn: the siblings that are left give what all of them give.
use mathlib.Core.Path.{◌≡◌, sym, ap, ◌∙◌}
use mathlib.Core.List.{List}
use Prim.Native.Nat.{ℕ, ◌/◌, ◌<◌}
use native.Mathlib.Omega.{arith}
use lib.ListN.{length}
use lib.Seq.{take_all}
use Rattle.std.specs.Slice.Iter.{chunks_exact_rest}
use Rattle.sha256.specs.Sha256.{bytes_of}
use Rattle.lm_hash.specs.Identifier.{identifier}
use Rattle.lm_tree.specs.Tree.{climb}
use Rattle.lm_tree.proofs.Nodes.{climb-sibling, climb-end}
use Rattle.lm_tree.proofs.climb.Goals as goal

pub loop-sibling-preserved : goal.loop-sibling-preserved
loop-sibling-preserved c =
    let l = c.loop-sibling in
    let I = identifier c.args.leaf in
    let sibling = c.in-Some.sibling.now in
    let rest = chunks_exact_rest c.next.new.self in
    let steps = c.in-Some.ensures.steps in
    let long : length sibling ≡ 32 = steps.1.1 ∙ l.invariant.0 in
    let all =
    sym (climb-sibling I l.node (bytes_of l.t) sibling rest long)
    ∙ ap (λ (left : List ℕ). climb I (length left / 32) l.node (bytes_of l.t) left) (sym steps.1.0)
    ∙ l.invariant.1 in
    (steps.0 ∙ l.invariant.0, rw (c.parent-t.ensures, c.value_at.ensures, take_all 32 sibling (omega arith)) all)

pub returns : goal.returns
returns c =
    let l = c.loop-sibling in
    let left = chunks_exact_rest l.sibling-iterator in
    let steps = c.in-None.ensures.steps in
    let few : length left < 32 = omega (arith, steps.1.0, l.invariant.0) in
    sym (climb-end (identifier c.args.leaf) l.node (bytes_of l.t) left few) ∙ l.invariant.1
