-- The promise of each lane's call.
use Rattle.sha256_lane_words.specs.Lane.{first, second, third, fourth, lane}
use Rattle.sha256_lane_words.proofs.Each.{each}
use Rattle.sha256_lane_words.proofs.Lanes.map.Goals as goal

pub f-requires : goal.f-requires
unfolding lane
f-requires g c = c.requires first

pub f-requires-2 : goal.f-requires-2
unfolding lane
f-requires-2 g c = c.requires second

pub f-requires-3 : goal.f-requires-3
unfolding lane
f-requires-3 g c = c.requires third

pub f-requires-4 : goal.f-requires-4
unfolding lane
f-requires-4 g c = c.requires fourth

pub returns : goal.returns
unfolding lane
returns g c = each _ c.f.ensures c.f-2.ensures c.f-3.ensures c.f-4.ensures
