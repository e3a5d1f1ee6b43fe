-- What is left of the chain that is furthest on.
use native.Mathlib.Omega.{arith}
use Rattle.sha256_lanes.specs.Lane.{first, second, third, fourth, lane}
use Rattle.sha256_lane_words.proofs.Each.{each}
use Rattle.lm_chain_turns.proofs.fewest.Goals as goal

pub overflow_sub-result : goal.overflow_sub-result
unfolding lane
overflow_sub-result c =
    let p = c.requires in
    omega (arith, p first, p second, p third, p fourth)

pub returns : goal.returns
unfolding lane
returns c =
    let p = c.requires in
    each _
    (omega (arith, p first, p second, p third, p fourth))
    (omega (arith, p first, p second, p third, p fourth))
    (omega (arith, p first, p second, p third, p fourth))
    (omega (arith, p first, p second, p third, p fourth))
