-- The block of each lane.
use Prim.Native.Nat.{ℕ}
use mathlib.Core.Path.{◌≡◌, ap, ◌∙◌}
use mathlib.Core.List.{List}
use lib.ListN.{get_or}
use Rattle.sha256_lanes.specs.Lane.{Lane, first, second, third, fourth, lane}
use Rattle.lm_chain_blocks.specs.Block.{step_block}
use Rattle.sha256_lane_words.proofs.Each.{each}
use Rattle.lm_chain_blocks.proofs.first_blocks.Goals as goal

pub step_block-requires : goal.step_block-requires
unfolding lane
step_block-requires c = c.requires.1 first

pub step_block-requires-2 : goal.step_block-requires-2
unfolding lane
step_block-requires-2 c = c.requires.1 second

pub step_block-requires-3 : goal.step_block-requires-3
unfolding lane
step_block-requires-3 c = c.requires.1 third

pub step_block-requires-4 : goal.step_block-requires-4
unfolding lane
step_block-requires-4 c = c.requires.1 fourth

pub returns : goal.returns
unfolding lane
returns c =
    let a = c.args in
    let told : (l : Lane)
    → lane l (c.step_block.result, c.step_block-2.result, c.step_block-3.result, c.step_block-4.result)
    ≡ step_block a.leaf (lane l a.i) (lane l a.j) (lane l a.t) =
    each _ c.step_block.ensures c.step_block-2.ensures c.step_block-3.ensures c.step_block-4.ensures in
    λ l n h. c.load.ensures l n h ∙ ap (λ (w : List ℕ). get_or w n 0) (told l)
