-- The promises of each lane's two rounds.
use mathlib.Core.Path.{ap, ◌∙◌}
use Rattle.sha256.specs.declared.State.{State}
use Rattle.sha256.specs.Sha256.{round}
use Rattle.sha256_lanes.specs.Lane.{lane}
use Rattle.sha256_lane_words.proofs.Each.{each}
use Rattle.sha256_lanes.proofs.step.Goals as goal

pub returns : goal.returns
unfolding lane
returns c =
    let a = c.args in
    each _
    (c.round-b0.ensures ∙ ap (λ (v : State). round v a.k1.0 a.w1.0) c.round-a0.ensures)
    (c.round-b1.ensures ∙ ap (λ (v : State). round v a.k1.1 a.w1.1) c.round-a1.ensures)
    (c.round-b2.ensures ∙ ap (λ (v : State). round v a.k1.2 a.w1.2) c.round-a2.ensures)
    (c.round-b3.ensures ∙ ap (λ (v : State). round v a.k1.3 a.w1.3) c.round-a3.ensures)
