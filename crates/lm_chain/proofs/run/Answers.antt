-- A step of each chain a turn, and the blocks of the next.
use Prim.Native.Nat.{ℕ, ◌+◌}
use mathlib.Core.Path.{◌≡◌, refl, sym, ap, ◌∙◌}
use native.Mathlib.Nat.{add-zero}
use native.Mathlib.Omega.{arith}
use borrow.Author.Rules.{rules}
use lib.ListN.{get_or, take}
use Rattle.sha256.specs.Sha256.{rounds}
use Rattle.lm_hash.specs.Identifier.{identifier}
use Rattle.sha256_lanes.specs.Lane.{first, lane}
use Rattle.lm_chain_blocks.specs.Block.{step_block}
use Rattle.lm_chain.specs.Chain.{stepped, chain}
use Rattle.lm_chain.proofs.Chains.{chain-last}
use Rattle.lm_chain_blocks.proofs.Blocks.{block_length}
use Rattle.lm_chain.proofs.Stepped.{step_result}
use Rattle.lm_chain.proofs.run.Goals as goal

pub slice_bounds-first_blocks-end : goal.slice_bounds-first_blocks-end
slice_bounds-first_blocks-end c = refl

pub first_blocks-requires : goal.first_blocks-requires
first_blocks-requires c = (refl, λ l. ((c.requires l).0, let h = (c.requires l).1 in omega arith))

pub loop-m-init : goal.loop-m-init
unfolding chain
loop-m-init c = (search rules, search rules, λ l leaf e h. (λ a k. rw add-zero (h a k), refl))

pub slice_bounds-absorb-end-in-loop-m : goal.slice_bounds-absorb-end-in-loop-m
slice_bounds-absorb-end-in-loop-m c = sym c.loop-m.invariant.0

pub absorb-s-requires : goal.absorb-s-requires
absorb-s-requires c = (c.loop-m.invariant.1, c.loop-m.invariant.0, c.table-k.ensures)

pub overflow_add-m : goal.overflow_add-m
overflow_add-m c = let h = (c.requires first).1 in omega arith

pub later-requires : goal.later-requires
later-requires c = λ l. let h = (c.requires l).1 in omega arith

pub slice_bounds-next_blocks-end : goal.slice_bounds-next_blocks-end
slice_bounds-next_blocks-end c = let e = c.loop-m.invariant.0 in omega (arith, e)

pub next_blocks-requires : goal.next_blocks-requires
next_blocks-requires c = (
  omega (arith, c.loop-m.invariant.0),
  λ l. ((c.requires l).0, let h = (c.requires l).1 in let e = c.later.ensures l in omega (arith, c.loop-m-test.true)),
)

pub loop-m-preserved : goal.loop-m-preserved
loop-m-preserved c =
    let a = c.args in
    let t = c.loop-m in
    let s = c.new.ensures in (
      omega (arith, t.invariant.0),
      t.invariant.1,
      λ l leaf e h.
          let last = t.invariant.2 l leaf e h in
          let m = step_block leaf (lane l a.i) (lane l a.j + t.m) (lane l t.s) in
          let r = c.absorb-s.ensures l m (block_length leaf _ _ _) last.0 (e _ _ _ ∙ ap (rounds 4 0 (take 4 m)) (sym s)) in (
            λ b k. c.next_blocks.ensures l leaf _ _ r.0 b k
                ∙ ap (λ (x : ℕ). get_or (step_block leaf (lane l a.i) x (lane l c.absorb-s.result)) b 0) (c.later.ensures l),
            step_result leaf (lane l a.i) (lane l a.j + t.m) (lane l t.s) _ _ m r.1 s refl
                ∙ ap (stepped (identifier leaf) leaf.q (lane l a.j + t.m) (lane l a.i)) last.1
                ∙ sym (chain-last (identifier leaf) leaf.q (lane l a.i) t.m (lane l a.j) _),
          ),
    )

pub returns : goal.returns
returns c =
    let t = c.loop-m in
    let a = c.args in
    let end : t.m ≡ a.n = omega arith in
    λ l. rw end at (t.invariant.2 l a.leaf c.shared-u.ensures (c.first_blocks.ensures l)).1
