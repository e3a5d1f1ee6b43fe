-- The comparison of the two keys says whether they are the same, and the answer is the other.
use mathlib.Core.Path.{ap, ◌∙◌}
use mathlib.Core.Bool.{not}
use mathlib.Core.List.{List}
use Prim.Native.Nat.{ℕ}
use lib.Pointwise.{bytes_decides}
use Rattle.words.specs.BigEndian.{same}
use Rattle.words.proofs.Same.{same_test}
use Rattle.roster.specs.Roster.{key_of}
use Rattle.roster_checks.proofs.keys.differ.Goals as goal

pub returns : goal.returns
returns c =
    let a = c.args in
    c.ne.ensures
    ∙ ap not
    (same_test _ _ _ (bytes_decides _ _)
    ∙ ap (λ (l : List ℕ). same l c.key_of-2.result.now) c.key_of.ensures.0
    ∙ ap (same (key_of a.roster.now a.j)) c.key_of-2.ensures.0)
