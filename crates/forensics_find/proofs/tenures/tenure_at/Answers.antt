-- The numbers and the last pointer of the certificate, with the end of its term.
use mathlib.Core.Path.{◌∙◌}
use native.Mathlib.Omega.{arith}
use Rattle.submission.specs.Reading.{ballot_size}
use Rattle.submission.proofs.Places.{last-pointer-at}
use Rattle.forensics_find.proofs.Numbers.{tenure_numbers}
use Rattle.forensics_find.proofs.tenures.tenure_at.Goals as goal

pub value_at-requires : goal.value_at-requires
unfolding ballot_size
value_at-requires c = omega (arith, c.requires)

pub returns : goal.returns
returns c =
    let a = c.args in
    let pointer = c.bytes-pointer.ensures ∙ c.value_at.ensures ∙ last-pointer-at a.width a.s.now a.at in
    tenure_numbers _ _ _ _ _ c.numbers_at-c.ensures pointer c.end_at-end.ensures
