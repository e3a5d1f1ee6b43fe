-- What the code needs of a row of the table.
-- Assumes nothing.
use mathlib.Core.Path.{◌≡◌}
use Prim.Native.Nat.{ℕ, ◌*◌, ◌/◌, ◌%◌, ◌^◌, ◌≤◌, ◌<◌}
use Rattle.lm_digits.specs.declared.Parameters.{Parameters}
use Rattle.lm_digits.specs.Listed.{Listed}
use Rattle.lm_digits.proofs.Widths.{width-le, pow-le, shifted_one}
use Rattle.lm_digits.proofs.Figures.{known-few, known-width, known-follows, chain-digit}

module _ (o : Parameters) (l : Listed o) where
  pub width : o.bits * (8 / o.bits) ≡ 8
  width = known-width l.number l.found

  pub few : o.chains ≤ 265
  few = known-few l.number l.found

  pub digit-place : (i : ℕ) → i < o.chains → i * o.bits / 8 < 34
  digit-place = chain-digit o width (known-follows l.number l.found)

  pub bits_below : o.bits ≤ 8
  bits_below = width-le o.bits width

  pub power : 1 * 2 ^ o.bits % 4294967296 ≡ 2 ^ o.bits
  power = shifted_one o.bits width

  pub power_below : 2 ^ o.bits ≤ 256
  power_below = pow-le o.bits width
