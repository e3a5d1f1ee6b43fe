-- Each value fills its half.
use Rattle.std.proofs.Common.{List, ℕ, ◌++◌, ◌∙◌, ap₂, refl}
use lib.ListN.{replicate}
use Rattle.lm_tree.proofs.Nodes.{two_halves}
use Rattle.lm_tree.proofs.pair.Goals as goal

pub returns : goal.returns
returns c =
    let left = c.copy_from_slice in
    let right = c.copy_from_slice-2 in
    two_halves left.new.self right.new.self (replicate 32 0) left.ensures.len refl
    ∙ ap₂ (λ (x y : List ℕ). x ++ y) (left.ensures.after ∙ c.bytes.ensures) (right.ensures.after ∙ c.bytes-2.ensures)
