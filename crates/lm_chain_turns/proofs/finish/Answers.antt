-- A step of the chain a turn.
use Prim.Native.Nat.{ℕ}
use mathlib.Core.Path.{refl, ap, ◌∙◌}
use mathlib.Core.List.{List}
use native.Mathlib.Omega.{arith}
use Rattle.sha256.specs.Sha256.{bytes_of}
use Rattle.lm_hash.specs.Identifier.{identifier}
use Rattle.sha256_lanes.specs.Lane.{changed}
use Rattle.lm_chain.specs.Chain.{chain}
use Rattle.lm_chain_values.specs.Values.{value_at}
use Rattle.lm_chain_turns.specs.Ahead.{ahead}
use Rattle.lm_chain_turns.proofs.Walks.{chain_next, chain-over}
use Rattle.lm_chain_turns.proofs.finish.Goals as goal

pub loop-j-init : goal.loop-j-init
loop-j-init c = refl

pub loop-j-preserved : goal.loop-j-preserved
loop-j-preserved c =
    let a = c.args in
    let t = c.loop-j in
    chain_next (identifier a.leaf) a.leaf.q a.i t.j a.last _ _ c.loop-j-test.true c.step-t.ensures ∙ t.invariant

pub returns : goal.returns
unfolding ahead
returns c =
    let a = c.args in
    let t = c.loop-j in
    let end = chain-over (identifier a.leaf) a.leaf.q a.i t.j a.last (bytes_of t.t) (omega arith)
    ∙ t.invariant
    ∙ ap (chain (identifier a.leaf) a.leaf.q a.i _ _) c.value_at-t.ensures in
    λ k. c.put_value.ensures k ∙ ap (λ (z : List ℕ). changed a.i z (value_at a.v.now) k) end
