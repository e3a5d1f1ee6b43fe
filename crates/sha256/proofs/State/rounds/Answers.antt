-- Eight runs of eight rounds; the argument is `rounds_eights`.
use Rattle.sha256.proofs.Rounds.{rounds_eights}
use mathlib.Core.Path.{sym}
use Rattle.sha256.proofs.State.rounds.Goals as goal

pub returns : goal.returns
returns c =
    let a = c.args in
    simp (
      c.eight_rounds-8.ensures,
      c.eight_rounds-7.ensures,
      c.eight_rounds-6.ensures,
      c.eight_rounds-5.ensures,
      c.eight_rounds-4.ensures,
      c.eight_rounds-3.ensures,
      c.eight_rounds-2.ensures,
      c.eight_rounds.ensures,
    )
    (sym (rounds_eights a.w.now a.self))
