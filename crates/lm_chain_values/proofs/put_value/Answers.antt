-- The eight words of the value, one after the other.
use mathlib.Core.Path.{ap, ◌∙◌}
use mathlib.Core.List.{List}
use Prim.Native.Nat.{ℕ, ◌*◌}
use native.Mathlib.Omega.{arith}
use lib.ListN.{length-set}
use Rattle.lm_chain_values.specs.Values.{value_at}
use Rattle.lm_chain_values.proofs.Buffers.{put_words, value_put}
use Rattle.lm_chain_values.proofs.put_value.Goals as goal

pub bounds-v-at-2 : goal.bounds-v-at-2
bounds-v-at-2 c = simp length-set (omega arith)

pub bounds-v-at-3 : goal.bounds-v-at-3
bounds-v-at-3 c = simp length-set (omega arith)

pub bounds-v-at-4 : goal.bounds-v-at-4
bounds-v-at-4 c = simp length-set (omega arith)

pub bounds-v-at-5 : goal.bounds-v-at-5
bounds-v-at-5 c = simp length-set (omega arith)

pub bounds-v-at-6 : goal.bounds-v-at-6
bounds-v-at-6 c = simp length-set (omega arith)

pub bounds-v-at-7 : goal.bounds-v-at-7
bounds-v-at-7 c = simp length-set (omega arith)

pub bounds-v-at-8 : goal.bounds-v-at-8
bounds-v-at-8 c = simp length-set (omega arith)

pub shape_of-v : goal.shape_of-v
shape_of-v c = simp length-set

pub returns : goal.returns
returns c =
    let a = c.args in
    λ k. ap (λ (l : List ℕ). value_at l k) (put_words a.v.now (8 * a.i) a.s) ∙ value_put a.v.now a.i a.s c.requires k
