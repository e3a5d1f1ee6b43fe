-- The words before it, mixed and put.
use mathlib.Core.Path.{◌∙◌}
use Rattle.sha256.specs.Sha256.{◌⊞◌, σ₀, σ₁}
use Rattle.sha256_lanes.specs.Lane.{word_in, changed}
use Rattle.sha256_lanes.proofs.word_at.Goals as goal

pub returns : goal.returns
returns c =
    let a = c.args in
    λ l k. c.put.ensures l k
    ∙ (λ n. changed a.i
    ((c.mix-v.ensures l ∙ (λ m. σ₁ (c.at-4.ensures l m) ⊞ c.at-3.ensures l m ⊞ σ₀ (c.at-2.ensures l m) ⊞ c.at.ensures l m)) n)
    (word_in l a.w.now) k)
