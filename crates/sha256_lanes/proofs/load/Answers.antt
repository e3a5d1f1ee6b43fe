-- One word of each lane a turn.
use native.Mathlib.Omega.{arith}
use Rattle.sha256_lane_words.proofs.Each.{picked}
use Rattle.sha256_lane_words.proofs.Places.{filled_to}
use Rattle.sha256_lanes.proofs.load.Goals as goal

pub loop-i-init : goal.loop-i-init
loop-i-init c = (omega arith, λ l n h. absurd (omega arith))

pub loop-i-preserved : goal.loop-i-preserved
loop-i-preserved c =
    let a = c.args in
    let t = c.loop-i in
    (omega arith, λ l. filled_to _ _ _ t.i _ (t.invariant.1 l) (c.put.ensures l) (picked a.b t.i l))

pub returns : goal.returns
returns c = let t = c.loop-i in λ l n h. t.invariant.1 l n (omega arith)
