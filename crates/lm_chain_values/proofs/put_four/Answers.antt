-- One value after the other.
use mathlib.Core.Path.{◌∙◌}
use native.Mathlib.Omega.{arith}
use Rattle.sha256_lanes.specs.Lane.{first, second, third, fourth, lane}
use Rattle.sha256_lane_words.proofs.Places.{changed_in}
use Rattle.lm_chain_values.proofs.put_four.Goals as goal

pub put_value-requires : goal.put_value-requires
unfolding lane
put_value-requires c = omega (arith, c.requires first)

pub put_value-requires-2 : goal.put_value-requires-2
unfolding lane
put_value-requires-2 c = omega (arith, c.requires second)

pub put_value-requires-3 : goal.put_value-requires-3
unfolding lane
put_value-requires-3 c = omega (arith, c.requires third)

pub put_value-requires-4 : goal.put_value-requires-4
unfolding lane
put_value-requires-4 c = omega (arith, c.requires fourth)

pub returns : goal.returns
returns c =
    let e1 = c.put_value.ensures in
    let e2 = c.put_value-2.ensures in
    let e3 = c.put_value-3.ensures in
    let e4 = c.put_value-4.ensures in
    λ k. e4 k ∙ changed_in _ _ (λ k. e3 k ∙ changed_in _ _ (λ k. e2 k ∙ changed_in _ _ e1 k) k) k
