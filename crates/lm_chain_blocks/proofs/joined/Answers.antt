-- Bytes that were both turned over, and so are as they were.
use mathlib.Core.Path.{◌≡◌, sym, ap, ap₂, ◌∙◌}
use Prim.Native.Nat.{ℕ, ◌+◌, ◌*◌, ◌/◌, ◌%◌, ◌^◌, ◌<◌}
use native.Mathlib.Omega.{arith}
use borrow.Author.Rules.{rules}
use lib.Dec.{lit<}
use lib.Bits.{bit_xor, xor_block, xor_comm, xor_self, xor_zero_l, xor_zero_r, xor_lt}
use Rattle.sha256_schedule.proofs.Bitwise.{xor_assoc}
use Rattle.lm_chain_blocks.specs.Block.{across_word}
use Rattle.lm_chain_blocks.proofs.joined.Goals as goal

turned : (v : ℕ) → v < 256 → bit_xor 255 (bit_xor v 255) ≡ v
turned v h =
    ap (bit_xor 255) (xor_comm v 255)
    ∙ sym (xor_assoc 255 255 v (lit< tt) (lit< tt) (omega arith))
    ∙ ap (λ (x : ℕ). bit_xor x v) (xor_self 255)
    ∙ xor_zero_l v

both : (a v : ℕ) → v < 256 → bit_xor (a * 256 + 255) (bit_xor v 255) ≡ a * 256 + v
both a v h =
    let low : 0 * 256 + bit_xor v 255 ≡ bit_xor v 255 = omega arith in
    ap (bit_xor (a * 256 + 255)) (sym low)
    ∙ xor_block 8 a 0 255 (bit_xor v 255) (lit< tt) (xor_lt 8 v 255 h (lit< tt))
    ∙ ap₂ (λ (x y : ℕ). x * 256 + y) (xor_zero_r a) (turned v h)

pub returns : goal.returns
unfolding across_word
returns c =
    let a = c.args in
    let fits : a.y < 2 ^ 32 = search rules in
    both (a.x % 16777216) (a.y / 16777216) (omega arith) ∙ omega arith
