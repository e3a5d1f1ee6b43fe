-- The words of a step's block: the bytes of the value stand one place past a word's edge, so that each word has three bytes
-- of one and a byte of the next.
-- Assumes nothing.
use mathlib.Core.Path.{◌≡◌, refl, sym, ap, subst, ◌∙◌}
use mathlib.Core.Logic.{⊎_elim}
use mathlib.Core.List.{List, [], ◌∷◌, ◌++◌, flat_map}
use Prim.Native.Nat.{ℕ, suc, ◌+◌, ◌*◌, ◌/◌, ◌%◌, ◌^◌, ◌≤◌, ◌<◌}
use native.Mathlib.Nat.{div-one, eq-or-lt_of_le}
use native.Mathlib.Omega.{arith}
use lib.ListN.{length, get_or, take}
use Rattle.words.specs.BigEndian.{number, be}
use Rattle.words.proofs.Laws.{number_append, number-be-mod, number-be}
use Rattle.sha256.specs.declared.State.{State}
use Rattle.sha256.specs.Sha256.{parse, padding, zeros, words_of, bytes_of}
use Rattle.lm_hash.specs.declared.Leaf.{Leaf}
use Rattle.lm_hash.specs.Identifier.{identifier}
use Rattle.sha256_lanes.specs.Lane.{changed}
use Rattle.sha256_lane_words.proofs.Places.{changed_in}
use Rattle.lm_chain_blocks.specs.Block.{step_block, first_word, across_word, last_word}

-- the bytes of a number and one more
one_more : (w x b : ℕ) → number (be w x ++ (b ∷ [])) ≡ x % 256 ^ w * 256 + b
unfolding number
one_more w x b = number_append (be w x) (b ∷ []) ∙ rw (number-be-mod w x) (omega arith)

-- two bytes of i, one of j, and one more
two_one_one : (i j b : ℕ) → number (be 2 i ++ (j / 1 % 256 ∷ b ∷ [])) ≡ i % 65536 * 65536 + j % 256 * 256 + b
unfolding number
two_one_one i j b = number_append (be 2 i) (j / 1 % 256 ∷ b ∷ []) ∙ rw (number-be-mod 2 i) (omega (arith, div-one j))

pub step_length : (leaf : Leaf) (i j : ℕ) (t : State)
    → length (identifier leaf ++ be 4 leaf.q ++ be 2 i ++ (be 1 j ++ bytes_of t)) ≡ 55
unfolding be identifier words_of bytes_of flat_map
step_length leaf i j t = refl

pub block_words_lem : (leaf : Leaf) (i j : ℕ) (t : State)
    → step_block leaf i j t
    ≡ number (be 4 leaf.i0) ∷ number (be 4 leaf.i1) ∷ number (be 4 leaf.i2) ∷ number (be 4 leaf.i3) ∷ number (be 4 leaf.q)
    ∷ first_word i j t.a ∷ across_word t.a t.b ∷ across_word t.b t.c ∷ across_word t.c t.d ∷ across_word t.d t.e
    ∷ across_word t.e t.f ∷ across_word t.f t.g ∷ across_word t.g t.h ∷ last_word t.h ∷ 0 ∷ 440 ∷ []
unfolding be number parse padding zeros identifier words_of bytes_of flat_map step_block first_word across_word last_word
block_words_lem leaf i j t =
    λ k. number (be 4 leaf.i0) ∷ number (be 4 leaf.i1) ∷ number (be 4 leaf.i2) ∷ number (be 4 leaf.i3) ∷ number (be 4 leaf.q)
    ∷ two_one_one i j (t.a / 16777216 % 256) k
    ∷ one_more 3 t.a (t.b / 16777216 % 256) k
    ∷ one_more 3 t.b (t.c / 16777216 % 256) k
    ∷ one_more 3 t.c (t.d / 16777216 % 256) k
    ∷ one_more 3 t.d (t.e / 16777216 % 256) k
    ∷ one_more 3 t.e (t.f / 16777216 % 256) k
    ∷ one_more 3 t.f (t.g / 16777216 % 256) k
    ∷ one_more 3 t.g (t.h / 16777216 % 256) k
    ∷ one_more 3 t.h 128 k ∷ 0 ∷ 440 ∷ []

-- the same of a leaf whose words fit
pub step_words : (leaf : Leaf) (i j : ℕ) (t : State)
    → leaf.i0 < 2 ^ 32 → leaf.i1 < 2 ^ 32 → leaf.i2 < 2 ^ 32 → leaf.i3 < 2 ^ 32 → leaf.q < 2 ^ 32
    → step_block leaf i j t
    ≡ leaf.i0 ∷ leaf.i1 ∷ leaf.i2 ∷ leaf.i3 ∷ leaf.q ∷ first_word i j t.a ∷ across_word t.a t.b ∷ across_word t.b t.c
    ∷ across_word t.c t.d ∷ across_word t.d t.e ∷ across_word t.e t.f ∷ across_word t.f t.g ∷ across_word t.g t.h
    ∷ last_word t.h ∷ 0 ∷ 440 ∷ []
step_words leaf i j t h0 h1 h2 h3 hq =
    block_words_lem leaf i j t
    ∙ (λ k. number-be 4 leaf.i0 h0 k ∷ number-be 4 leaf.i1 h1 k ∷ number-be 4 leaf.i2 h2 k ∷ number-be 4 leaf.i3 h3 k
    ∷ number-be 4 leaf.q hq k ∷ first_word i j t.a ∷ across_word t.a t.b ∷ across_word t.b t.c
    ∷ across_word t.c t.d ∷ across_word t.d t.e ∷ across_word t.e t.f ∷ across_word t.f t.g ∷ across_word t.g t.h
    ∷ last_word t.h ∷ 0 ∷ 440 ∷ [])

-- the first four words are I
pub front_words : (leaf : Leaf) (i j : ℕ) (t : State)
    → leaf.i0 < 2 ^ 32 → leaf.i1 < 2 ^ 32 → leaf.i2 < 2 ^ 32 → leaf.i3 < 2 ^ 32
    → take 4 (step_block leaf i j t) ≡ leaf.i0 ∷ leaf.i1 ∷ leaf.i2 ∷ leaf.i3 ∷ []
front_words leaf i j t h0 h1 h2 h3 =
    ap (take 4) (block_words_lem leaf i j t)
    ∙ (λ k. number-be 4 leaf.i0 h0 k ∷ number-be 4 leaf.i1 h1 k ∷ number-be 4 leaf.i2 h2 k ∷ number-be 4 leaf.i3 h3 k ∷ [])

pub block_length : (leaf : Leaf) (i j : ℕ) (t : State) → length (step_block leaf i j t) ≡ 16
block_length leaf i j t = ap length (block_words_lem leaf i j t)

-- ---- the next step's words in the places of the last one's

-- three words put one after the other, each known by another name
pub three_puts : (i j m : ℕ) (f0 f1 f2 f3 : ℕ → ℕ) {x x' y y' z z' : ℕ}
    → ((k : ℕ) → f1 k ≡ changed i x f0 k) → x ≡ x'
    → ((k : ℕ) → f2 k ≡ changed j y f1 k) → y ≡ y'
    → ((k : ℕ) → f3 k ≡ changed m z f2 k) → z ≡ z'
    → (k : ℕ) → f3 k ≡ changed m z' (changed j y' (changed i x' f0)) k
three_puts i j m f0 f1 f2 f3 {x} {x'} {y} {y'} {z} {z'} h1 ex h2 ey h3 ez k =
    h3 k ∙ (λ n. changed m (ez n) f2 k)
    ∙ changed_in m z' (λ q. h2 q ∙ (λ n. changed j (ey n) f1 q)
    ∙ changed_in j y' (λ r. h1 r ∙ (λ n. changed i (ex n) f0 r)) q) k

-- what holds below a number, and of it, holds below the next
below : (P : ℕ → Type 0) (k : ℕ) → ((n : ℕ) → n < k → P n) → P k → (n : ℕ) → n < suc k → P n
below P k under here n h =
    let le : n ≤ k = omega arith in
    ⊎_elim (λ (e : n ≡ k). subst P (sym e) here) (λ (l : n < k). under n l) (eq-or-lt_of_le le)

word : (n : ℕ) {v w : List ℕ} → v ≡ w → get_or v n 0 ≡ get_or w n 0
word n = ap (λ (w : List ℕ). get_or w n 0)

pub moved_on : (leaf : Leaf) (i j p : ℕ) (t v : State) (f0 f1 f2 f3 : ℕ → ℕ)
    → ((n : ℕ) → f1 n ≡ changed 7 (across_word t.b t.c) (changed 6 (across_word t.a t.b) (changed 5 (first_word i j t.a) f0)) n)
    → ((n : ℕ) → f2 n ≡ changed 10 (across_word t.e t.f) (changed 9 (across_word t.d t.e) (changed 8 (across_word t.c t.d) f1)) n)
    → ((n : ℕ) → f3 n ≡ changed 13 (last_word t.h) (changed 12 (across_word t.g t.h) (changed 11 (across_word t.f t.g) f2)) n)
    → ((n : ℕ) → n < 16 → f0 n ≡ get_or (step_block leaf i p v) n 0)
    → (n : ℕ) → n < 16 → f3 n ≡ get_or (step_block leaf i j t) n 0
unfolding changed
moved_on leaf i j p t v f0 f1 f2 f3 h1 h2 h3 old =
    let was = block_words_lem leaf i p v in
    let is = sym (block_words_lem leaf i j t) in
    let P : ℕ → Type 0 = λ n. f3 n ≡ get_or (step_block leaf i j t) n 0 in
    below P 15 (below P 14 (below P 13 (below P 12 (below P 11 (below P 10 (below P 9 (below P 8 (below P 7 (below P 6 (below P 5
    (below P 4 (below P 3 (below P 2 (below P 1 (below P 0 (λ n h. absurd (omega arith))
    (h3 0 ∙ h2 0 ∙ h1 0 ∙ old 0 (omega arith) ∙ word 0 was ∙ word 0 is))
    (h3 1 ∙ h2 1 ∙ h1 1 ∙ old 1 (omega arith) ∙ word 1 was ∙ word 1 is))
    (h3 2 ∙ h2 2 ∙ h1 2 ∙ old 2 (omega arith) ∙ word 2 was ∙ word 2 is))
    (h3 3 ∙ h2 3 ∙ h1 3 ∙ old 3 (omega arith) ∙ word 3 was ∙ word 3 is))
    (h3 4 ∙ h2 4 ∙ h1 4 ∙ old 4 (omega arith) ∙ word 4 was ∙ word 4 is))
    (h3 5 ∙ h2 5 ∙ h1 5 ∙ word 5 is))
    (h3 6 ∙ h2 6 ∙ h1 6 ∙ word 6 is))
    (h3 7 ∙ h2 7 ∙ h1 7 ∙ word 7 is))
    (h3 8 ∙ h2 8 ∙ word 8 is))
    (h3 9 ∙ h2 9 ∙ word 9 is))
    (h3 10 ∙ h2 10 ∙ word 10 is))
    (h3 11 ∙ word 11 is))
    (h3 12 ∙ word 12 is))
    (h3 13 ∙ word 13 is))
    (h3 14 ∙ h2 14 ∙ h1 14 ∙ old 14 (omega arith) ∙ word 14 was ∙ word 14 is))
    (h3 15 ∙ h2 15 ∙ h1 15 ∙ old 15 (omega arith) ∙ word 15 was ∙ word 15 is)
