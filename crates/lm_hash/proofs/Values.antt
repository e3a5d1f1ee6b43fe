-- Hash values and identifiers held in words have the bytes that they were read from.
-- Assumes nothing.
use mathlib.Core.Path.{◌≡◌, refl, sym, ap, ◌∙◌}
use mathlib.Core.List.{List, [], ◌∷◌, ◌++◌, flat_map}
use Prim.Native.Nat.{ℕ, zero, suc, ◌+◌, ◌*◌, ◌/◌, ◌%◌, ◌≤◌, ◌<◌}
use native.Mathlib.Nat.{add_assoc, div-one}
use native.Mathlib.Omega.{arith}
use lib.ListN.{length, get_or, take, drop, length-drop}
use Rattle.words.specs.BigEndian.{be, number_at}
use Rattle.words.proofs.Laws.{bytes_each, bytes_drop}
use Rattle.sha256.specs.declared.State.{State}
use Rattle.sha256.specs.Sha256.{parse, words_of, bytes_of, sha256}
use Rattle.lm_hash.specs.declared.Leaf.{Leaf}
use Rattle.lm_hash.specs.Identifier.{identifier}
use Rattle.sha256.proofs.Blocks.{parse_at, bytes-parse}

-- the n words at a place
numbers : ℕ → List ℕ → ℕ → List ℕ
numbers zero s at = []
numbers (suc n) s at = number_at 4 s at ∷ numbers n s (at + 4)

numbers_parse : (n : ℕ) (s : List ℕ) (at : ℕ) → parse n (drop at s) ≡ numbers n s at
unfolding parse numbers
numbers_parse zero s at = refl
numbers_parse (suc n) s at = parse_at n s at ∙ ap (λ (l : List ℕ). number_at 4 s at ∷ l) (numbers_parse n s (at + 4))

module _ (s : List ℕ) (at : ℕ) (each : (i : ℕ) → get_or s i 0 < 256) where
  -- and their bytes
  numbers-bytes : (n : ℕ) → at + 4 * n ≤ length s → flat_map (be 4) (numbers n s at) ≡ take (4 * n) (drop at s)
  numbers-bytes n h =
      ap (flat_map (be 4)) (sym (numbers_parse n s at))
      ∙ bytes-parse n (drop at s) (bytes_drop at s (bytes_each s each)) (simp length-drop (omega arith))

  pub four-words : at + 16 ≤ length s
      → flat_map (be 4) (number_at 4 s at ∷ number_at 4 s (at + 4) ∷ number_at 4 s (at + 8) ∷ number_at 4 s (at + 12) ∷ []) ≡ take 16 (drop at s)
  unfolding numbers
  four-words h = simp add_assoc at (numbers-bytes 4 h)

  pub eight-words : at + 32 ≤ length s
      → flat_map (be 4)
      (number_at 4 s at ∷ number_at 4 s (at + 4) ∷ number_at 4 s (at + 8) ∷ number_at 4 s (at + 12) ∷ number_at 4 s (at + 16) ∷ number_at 4 s (at + 20) ∷ number_at 4 s (at + 24) ∷ number_at 4 s (at + 28) ∷ [])
      ≡ take 32 (drop at s)
  unfolding numbers
  eight-words h = simp add_assoc at (numbers-bytes 8 h)

-- two bytes at the top of a word
top_two : (d : ℕ) → take 2 (be 4 (d * 65536)) ≡ be 2 d
unfolding be
top_two d =
    let high : d * 65536 / 16777216 % 256 ≡ d / 256 % 256 = omega arith in
    let low : d * 65536 / 65536 % 256 ≡ d / 1 % 256 = omega (arith, div-one d) in
    λ k. high k ∷ low k ∷ []

-- the first 22 bytes of a hash's message, as bytes of words
pub head_bytes : (leaf : Leaf) (q d : ℕ)
    → take 22 (bytes_of (record { a = leaf.i0; b = leaf.i1; c = leaf.i2; d = leaf.i3; e = q; f = d * 65536; g = 0; h = 0 }))
    ≡ identifier leaf ++ be 4 q ++ be 2 d
unfolding be bytes_of words_of flat_map identifier
head_bytes leaf q d = ap (λ (l : List ℕ). identifier leaf ++ be 4 q ++ l) (top_two d)

pub head_length : (leaf : Leaf) (q d : ℕ) → length (identifier leaf ++ be 4 q ++ be 2 d) ≡ 22
unfolding be identifier
head_length leaf q d = refl

pub length-bytes : (v : State) → length (bytes_of v) ≡ 32
unfolding be bytes_of words_of flat_map
length-bytes v = refl

pub length-digest : (m : List ℕ) → length (sha256 m) ≡ 32
unfolding sha256
length-digest m = length-bytes _
