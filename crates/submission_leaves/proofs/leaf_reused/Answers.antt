-- One test an entry.
use mathlib.Core.Bool.{Bool}
use mathlib.Core.Path.{refl, ◌∙◌}
use Prim.Native.Nat.{ℕ}
use native.Mathlib.Omega.{arith}
use borrow.Author.Rules.{rules}
use Rattle.std.proofs.Common.{tests}
use Rattle.std.proofs.lemmas.Iterator.{YieldsList-from_range}
use Rattle.std.proofs.lemmas.Iterator.Search.{any_from_yields_List}
use Rattle.lm_format.specs.Uses.{reused}
use Rattle.submission_leaves.specs.Entries.{entry_use_at}
use Rattle.submission_leaves.proofs.Entries.{any_entry}
use Rattle.submission_leaves.proofs.leaf_reused.Goals as goal

pub returns : goal.returns
unfolding entry_use_at
returns c =
    let a = c.args in
    let test : ℕ → Bool = λ j. reused (entry_use_at a.i a.buffer.now) (entry_use_at j a.buffer.now) in
    any_from_yields_List test _ _ c.any.result c.any.ensures.ran (YieldsList-from_range 0 a.n a.n refl (omega arith)) (λ x b q k. search (rules, tests))
    ∙ any_entry a.buffer.now (entry_use_at a.i a.buffer.now) a.n 0
