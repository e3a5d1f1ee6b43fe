-- The library's digits are the number's, at most ten of them.
use mathlib.Core.Path.{ap, ◌∙◌}
use mathlib.Core.List.{List}
use Prim.Native.Nat.{ℕ, ◌+◌}
use native.Mathlib.Omega.{arith}
use lib.ListN.{length}
use lib.Seq.{sets}
use Rattle.text_decimal.proofs.Decimal.{text-decimal}
use Rattle.text_decimal.proofs.put_decimal.Goals as goal

pub returns : goal.returns
returns c =
    let a = c.args in
    let same = c.as_bytes-digits.ensures.value in
    let digits = same ∙ c.format.ensures.text ∙ text-decimal a.x (omega (arith, c.ranges.x.fits)) in
    record {
      stored = c.put_bytes.ensures ∙ ap (sets a.out.now a.at) digits;
      after = ap (λ (l : List ℕ). a.at + length l) digits;
      few = omega (arith, ap length digits, ap length same, c.format.ensures.fits);
    }
