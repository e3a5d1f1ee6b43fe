-- The two of each lane.
use mathlib.Core.Path.{refl}
use Rattle.sha256_lane_words.specs.Lane.{lane}
use Rattle.sha256_lane_words.proofs.Each.{each}
use Rattle.sha256_lane_words.proofs.Lanes.zip.Goals as goal

pub returns : goal.returns
unfolding lane
returns g c = each _ refl refl refl refl
