-- The sum of each lane.
use borrow.Author.Rules.{rules}
use Rattle.sha256_lanes.proofs.sums.Goals as goal

pub returns : goal.returns
returns c = λ l. let h = c.map.ensures l in search rules
