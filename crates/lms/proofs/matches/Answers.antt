-- The comparison of two slices says whether the lists are the same.
use mathlib.Core.Path.{ap, ◌∙◌}
use mathlib.Core.List.{List}
use Prim.Native.Nat.{ℕ, ◌-◌}
use lib.Pointwise.{bytes_decides}
use lib.ListN.{length, take, drop}
use Rattle.words.specs.BigEndian.{same}
use Rattle.words.proofs.Laws.{part_end}
use Rattle.words.proofs.Same.{same_test}
use Rattle.sha256.specs.Sha256.{bytes_of}
use Rattle.lms.proofs.matches.Goals as goal

pub returns : goal.returns
returns c =
    let key = c.args.key.now in
    c.eq.ensures
    ∙ same_test _ _ _ (bytes_decides _ _)
    ∙ ap (λ (l : List ℕ). same l (take (length key - 24) (drop 24 key))) c.bytes.ensures
    ∙ ap (same (bytes_of c.args.root)) (part_end key 24)
