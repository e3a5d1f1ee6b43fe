-- The bytes read are those of the definition, each times its place.
use native.Mathlib.Omega.{arith}
use Rattle.words.proofs.Laws.{number_at-2}
use Rattle.words.proofs.u16_at.Goals as goal

pub returns : goal.returns
returns c =
    let a = c.args in
    omega (arith, number_at-2 a.s.now a.at c.requires)
