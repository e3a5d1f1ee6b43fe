-- Nine words in their places, and the others as they were.
use Rattle.sha256_lanes.specs.Lane.{first, second, third, fourth, lane}
use Rattle.sha256_lane_words.proofs.Each.{each}
use Rattle.lm_chain_blocks.proofs.Blocks.{moved_on}
use Rattle.lm_chain_blocks.proofs.next_blocks.Goals as goal

pub returns : goal.returns
unfolding lane
returns c =
    let h1 = c.put_first.ensures in
    let h2 = c.put_middle.ensures in
    let h3 = c.put_last.ensures in
    each _
    (λ leaf n v. moved_on leaf _ _ n _ v _ _ _ _ (h1 first) (h2 first) (h3 first))
    (λ leaf n v. moved_on leaf _ _ n _ v _ _ _ _ (h1 second) (h2 second) (h3 second))
    (λ leaf n v. moved_on leaf _ _ n _ v _ _ _ _ (h1 third) (h2 third) (h3 third))
    (λ leaf n v. moved_on leaf _ _ n _ v _ _ _ _ (h1 fourth) (h2 fourth) (h3 fourth))
