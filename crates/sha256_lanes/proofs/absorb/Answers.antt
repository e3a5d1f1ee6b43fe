-- The four rounds that are shared, and the others.
use mathlib.Core.Path.{ap, ◌∙◌, sym}
use Rattle.sha256.specs.declared.State.{State}
use Rattle.sha256.specs.Sha256.{plus, rounds, schedule, compress}
use Rattle.sha256.proofs.Rounds.{rounds-add}
use Rattle.sha256_lanes.proofs.Turns.{first-rounds}
use Rattle.sha256_lanes.proofs.absorb.Goals as goal

pub returns : goal.returns
unfolding compress
returns c =
    let a = c.args in
    λ l m long e begun.
    let r = c.rounds.ensures l m long e in (
      r.0,
      c.sums.ensures l
          ∙ ap (λ (v : State). plus v a.s)
          (r.1 ∙ ap (rounds 60 4 (schedule m)) (begun ∙ first-rounds m a.s long) ∙ sym (rounds-add 4 60 0 (schedule m) a.s)),
    )
