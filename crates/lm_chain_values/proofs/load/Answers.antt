-- One value a turn.
use Prim.Native.Nat.{ℕ, ◌*◌}
use mathlib.Core.Path.{◌≡◌, refl, sym, ◌∙◌}
use native.Mathlib.Omega.{arith}
use lib.ListN.{take, drop}
use Rattle.lm_chain_values.specs.Values.{value_at}
use Rattle.lm_digits.proofs.Counting.{one_more}
use Rattle.sha256_lane_words.proofs.Places.{changed-same, changed-other}
use Rattle.lm_chain_values.proofs.load.Goals as goal

pub loop-i-init : goal.loop-i-init
loop-i-init c = (refl, λ k h. absurd (omega arith))

pub slice_bounds-put_value-end : goal.slice_bounds-put_value-end
slice_bounds-put_value-end c = sym c.loop-i.invariant.0

pub loop-i-preserved : goal.loop-i-preserved
loop-i-preserved c =
    let a = c.args in
    let t = c.loop-i in
    let put = c.put_value.ensures in (
      omega arith,
      one_more (λ (k : ℕ). value_at c.put_value.new.v k ≡ take 32 (drop (32 * k) a.y.now)) t.i
          (λ k h. put k ∙ changed-other t.i _ _ k (λ e. omega arith) ∙ t.invariant.1 k h)
          (put t.i ∙ changed-same t.i _ _ ∙ c.value_at.ensures),
    )

pub returns : goal.returns
returns c = λ k h. c.loop-i.invariant.1 k (omega arith)
