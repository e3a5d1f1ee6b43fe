-- One constant a turn.
use mathlib.Core.Path.{sym}
use native.Mathlib.Omega.{arith}
use borrow.Author.Rules.{rules}
use Rattle.sha256_tables.specs.Constants.{constants}
use Rattle.sha256_lane_words.proofs.Places.{filled_to}
use Rattle.sha256_lanes.proofs.table.Goals as goal

pub loop-i-init : goal.loop-i-init
loop-i-init c = (search rules, λ l n h. absurd (omega arith))

pub slice_bounds-put-end : goal.slice_bounds-put-end
slice_bounds-put-end c = sym c.loop-i.invariant.0

pub loop-i-preserved : goal.loop-i-preserved
unfolding constants
loop-i-preserved c =
    let t = c.loop-i in
    (omega arith, λ l. filled_to _ _ _ t.i _ (t.invariant.1 l) (c.put.ensures l) (c.same.ensures l))

pub returns : goal.returns
returns c = let t = c.loop-i in λ l n h. t.invariant.1 l n (omega arith)
