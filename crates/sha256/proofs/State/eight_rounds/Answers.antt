-- Eight rounds, one after the other.
use native.Mathlib.Numerals.{towards_suc}
use Rattle.sha256.specs.Sha256.{rounds}
use Rattle.sha256.proofs.State.eight_rounds.Goals as goal

pub returns : goal.returns
unfolding rounds
returns g c =
    simp (
      c.round_at-8.ensures,
      c.round_at-7.ensures,
      c.round_at-6.ensures,
      c.round_at-5.ensures,
      c.round_at-4.ensures,
      c.round_at-3.ensures,
      c.round_at-2.ensures,
      c.round_at.ensures,
      towards_suc,
    )
