-- The library's comparison of the bytes of the two parts.
use mathlib.Core.Path.{◌≡◌, ◌∙◌}
use Prim.Native.Nat.{◌+◌, ◌-◌}
use native.Mathlib.Omega.{arith}
use lib.ListN.{take, drop}
use Rattle.words.proofs.Same.{pointwise_same}
use Rattle.log_difference.proofs.same_part.Goals as goal

pub returns : goal.returns
returns c =
    let a = c.args in
    let whole : a.at + a.size - a.at ≡ a.size = omega arith in
    rw whole at (c.eq.ensures ∙ pointwise_same (take (a.at + a.size - a.at) (drop a.at a.a.now)) (take (a.at + a.size - a.at) (drop a.at a.b.now)))
