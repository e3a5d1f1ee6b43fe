-- The head and the salt are the first 54 bytes of a block, and the message follows them.
use mathlib.Core.Path.{◌≡◌, ap, ◌∙◌}
use mathlib.Core.List.{List, ◌++◌}
use Prim.Native.Nat.{ℕ}
use native.Mathlib.Omega.{arith}
use lib.ListN.{length, take, replicate, length-take}
use Rattle.words.specs.BigEndian.{be}
use Rattle.sha256.specs.Sha256.{sha256}
use Rattle.lm_hash.specs.Identifier.{identifier}
use Rattle.lm_hash.specs.Tagged.{tagged}
use Rattle.lm_hash.proofs.Heads.{salted}
use Rattle.lm_hash.proofs.Values.{head_length}
use borrow.Author.Rules.{rules}
use Rattle.lm_hash.proofs.tagged_message.Goals as goal

pub slice_bounds-first_block-end : goal.slice_bounds-first_block-end
slice_bounds-first_block-end c =
    let long : length c.head-bytes.result ≡ 32 = search rules in
    simp length-take (omega arith)

pub slice_bounds-joined-end : goal.slice_bounds-joined-end
slice_bounds-joined-end c =
    let long : length c.first_block-block.result ≡ 64 = search rules in
    simp length-take (omega arith)

pub joined-requires : goal.joined-requires
joined-requires c =
    let long : length c.first_block-block.result ≡ 64 = search rules in
    (simp length-take (omega arith), omega arith)

pub returns : goal.returns
unfolding tagged
returns c =
    let a = c.args in
    let salt = a.salt.now in
    let front = identifier a.leaf ++ be 4 a.q ++ be 2 a.d in
    let block : c.first_block-block.result ≡ take 64 ((front ++ salt) ++ replicate 64 0) =
    c.first_block-block.ensures
    ∙ ap (λ (l : List ℕ). take 64 ((l ++ salt) ++ replicate 64 0)) c.head-bytes.ensures in
    c.joined.ensures
    ∙ ap (λ (l : List ℕ). sha256 (take 54 l ++ a.message.now)) block
    ∙ ap sha256 (salted front salt a.message.now (head_length a.leaf a.q a.d) c.requires.1)
