-- The head of 22 bytes and the rest, one after the other, are hashed.
use mathlib.Core.Path.{◌≡◌, ap, ◌∙◌}
use mathlib.Core.List.{List, ◌++◌}
use Prim.Native.Nat.{ℕ}
use native.Mathlib.Omega.{arith}
use lib.ListN.{length, length-take}
use Rattle.sha256.specs.Sha256.{sha256}
use Rattle.lm_hash.specs.Tagged.{tagged}
use borrow.Author.Rules.{rules}
use Rattle.lm_hash.proofs.tagged.Goals as goal

pub slice_bounds-joined-end : goal.slice_bounds-joined-end
slice_bounds-joined-end c =
    let long : length c.head-bytes.result ≡ 32 = search rules in
    simp length-take (omega arith)

pub joined-requires : goal.joined-requires
joined-requires c =
    let long : length c.head-bytes.result ≡ 32 = search rules in
    (simp length-take (omega arith), omega arith)

pub returns : goal.returns
unfolding tagged
returns c =
    let rest = c.args.rest.now in
    c.joined.ensures ∙ ap (λ (l : List ℕ). sha256 (l ++ rest)) c.head-bytes.ensures
