-- Either all is in the first block, or the message goes on after it.
use Prim.Native.Nat.{ℕ, ◌+◌, ◌-◌, ◌*◌, ◌/◌}
use mathlib.Core.Path.{◌≡◌, ap, ◌∙◌}
use mathlib.Core.List.{List, ◌++◌}
use native.Mathlib.Omega.{arith}
use lib.ListN.{length, take, drop, replicate, length-take}
use Rattle.words.proofs.Laws.{part_end}
use Rattle.sha256.specs.Sha256.{initial, padding, parse, compress, hash}
use Rattle.lm_hash.proofs.Heads.{short-digest, long-digest}
use borrow.Author.Rules.{rules}
use Rattle.lm_hash.proofs.message.joined.Goals as goal

pub slice_bounds-finish-end : goal.slice_bounds-finish-end
slice_bounds-finish-end c =
    let long : length c.first_block-block.result ≡ 64 = search rules in
    simp length-take (omega arith)

pub finish-requires : goal.finish-requires
finish-requires c =
    let long : length c.first_block-block.result ≡ 64 = search rules in
    (simp length-take (omega arith), omega arith)

pub returns-then-total-lt64 : goal.returns-then-total-lt64
returns-then-total-lt64 c =
    let a = c.args in
    simp (c.finish.ensures, c.new.ensures, c.first_block-block.ensures)
    (short-digest a.head.now a.message.now c.if-total-lt64.true)

pub returns : goal.returns
returns c =
    let head = c.args.head.now in
    let message = c.args.message.now in
    let total = length head + length message in
    let rest = drop (64 - length head) message in
    let at = length rest / 64 * 64 in
    let part = part_end message (64 - length head) in
    let first : c.absorb-s.result ≡ compress initial (parse 16 (take 64 ((head ++ message) ++ replicate 64 0))) =
    simp (
      c.absorb-s.ensures,
      c.block_at.ensures,
      c.new-2.ensures,
      c.first_block-block.ensures,
    ) in
    let whole : c.absorb_all.result ≡ hash c.absorb-s.result rest =
    c.absorb_all.ensures ∙ ap (hash c.absorb-s.result) part in
    let ended : List ℕ → List ℕ = λ l. take (length l - length l / 64 * 64) (drop (length l / 64 * 64) l) ++ padding total in
    let end : c.finish-2.result ≡ hash c.absorb_all.result (drop at rest ++ padding total) =
    c.finish-2.ensures
    ∙ ap (λ (l : List ℕ). hash c.absorb_all.result (ended l)) part
    ∙ ap (λ (l : List ℕ). hash c.absorb_all.result (l ++ padding total)) (part_end rest at) in
    rw (end, whole, first)
    (long-digest head message (omega arith) (omega arith))
