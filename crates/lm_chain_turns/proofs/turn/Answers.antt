-- Each chain, moved on, leads to the same end.
use Prim.Native.Nat.{ℕ, ◌+◌, ◌≤◌}
use mathlib.Core.Path.{◌≡◌, ap, ◌∙◌}
use native.Mathlib.Omega.{arith}
use lib.ListN.{get_or}
use Rattle.sha256.specs.Sha256.{bytes_of}
use Rattle.lm_hash.specs.Identifier.{identifier}
use Rattle.sha256_lanes.specs.Lane.{Lane, first, second, third, fourth, lane, changed}
use Rattle.lm_chain_values.specs.Values.{value_at}
use Rattle.lm_chain_turns.specs.Ahead.{ahead}
use Rattle.lm_chain.specs.Chain.{chain}
use Rattle.lm_chain_turns.proofs.Walks.{four_moved}
use Rattle.lm_chain_turns.proofs.turn.Goals as goal

pub fewest-n-requires : goal.fewest-n-requires
fewest-n-requires c = λ l. rw (c.steps_at-j.ensures l) (c.requires.4 _)

pub run-t-requires : goal.run-t-requires
run-t-requires c =
    let p = c.requires in
    (p.2, λ l. (p.3 l, let h = c.fewest-n.ensures l in omega (arith, p.0)))

pub later-requires : goal.later-requires
later-requires c = λ l. let h = c.fewest-n.ensures l in omega (arith, c.requires.0)

pub put_steps-requires : goal.put_steps-requires
unfolding lane
put_steps-requires c = let p = c.requires.3 in (omega (arith, p first), omega (arith, p second), omega (arith, p third), omega (arith, p fourth))

pub returns : goal.returns
unfolding lane ahead
returns c =
    let a = c.args in
    let I = identifier a.leaf in
    let q = a.leaf.q in
    let f : ℕ → ℕ = λ k. get_or a.steps.now k 0 in
    let g = value_at a.v.now in
    let n = c.fewest-n.result in
    let from = c.steps_at-j.ensures in
    let room : (l : Lane) → f (lane l a.i) + n ≤ a.last = λ l. rw (from l) at (c.fewest-n.ensures l) in
    let s : (l : Lane) → lane l c.later.result ≡ f (lane l a.i) + n = λ l. c.later.ensures l ∙ ap (λ (j : ℕ). j + n) (from l) in
    let z : (l : Lane) → bytes_of (lane l c.run-t.result) ≡ chain I q (lane l a.i) n (f (lane l a.i)) (g (lane l a.i)) =
    λ l. c.run-t.ensures l ∙ ap (λ (j : ℕ). chain I q (lane l a.i) n j (g (lane l a.i))) (from l) in
    four_moved I q a.last n f (λ (k : ℕ). get_or c.put_steps.new.steps k 0) g (value_at c.put_four.new.v) a.i.0 a.i.1 a.i.2 a.i.3 c.requires.4 (room first) (room second) (room third) (room fourth)
    (λ k. c.put_steps.ensures k ∙ (λ m. changed a.i.3 (s fourth m) (changed a.i.2 (s third m) (changed a.i.1 (s second m) (changed a.i.0 (s first m) f))) k))
    (λ k. c.put_four.ensures k ∙ (λ m. changed a.i.3 (z fourth m) (changed a.i.2 (z third m) (changed a.i.1 (z second m) (changed a.i.0 (z first m) g))) k))
