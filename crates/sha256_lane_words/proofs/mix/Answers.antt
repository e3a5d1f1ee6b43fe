-- The promise of each lane's call.
use Rattle.sha256_lane_words.specs.Lane.{lane}
use Rattle.sha256_lane_words.proofs.Each.{each}
use Rattle.sha256_lane_words.proofs.mix.Goals as goal

pub returns : goal.returns
unfolding lane
returns c =
    each _ c.word.ensures c.word-2.ensures c.word-3.ensures c.word-4.ensures
