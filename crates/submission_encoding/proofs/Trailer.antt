-- The trailer of what is written is read back, one number after the other.
-- Assumes nothing.
use mathlib.Core.Path.{◌≡◌, ◌∙◌}
use mathlib.Core.List.{List, [], ◌++◌, append_assoc, append-nil}
use Prim.Native.Nat.{ℕ, suc, ◌+◌, ◌*◌, ◌^◌, ◌<◌}
use native.Mathlib.Omega.{arith}
use lib.ListN.{length, drop}
use Rattle.words.specs.BigEndian.{be}
use Rattle.words.proofs.Laws.{length-be}
use Rattle.roster.specs.Roster.{name_size}
use Rattle.submission.specs.Trailer.{trailer_at, name, word, record_count, leader_count, distance, version}
use Rattle.submission_encoding.proofs.Read.{next_field, field_here, number_here}

-- ---- a number of the trailer

module _ (s : List ℕ) (i n : ℕ) (rest : List ℕ) (e : drop (trailer_at s + name_size + 4 * i) s ≡ be 4 n ++ rest) where
  word-is : n < 256 ^ 4 → word s i ≡ n
  unfolding word
  word-is h = number_here s (trailer_at s + name_size + 4 * i) 4 n rest h e

  word_next : drop (trailer_at s + name_size + 4 * suc i) s ≡ rest
  word_next =
      let place : trailer_at s + name_size + 4 * i + 4 ≡ trailer_at s + name_size + 4 * suc i = omega arith in
      rw place at (next_field s (trailer_at s + name_size + 4 * i) (be 4 n) rest 4 (length-be 4 n) e)

-- ---- all of them

-- name, H, L, the four distances, version
pub record Words (s cluster : List ℕ) (H L d1 d2 d3 d4 number : ℕ) : Type 0 where
  pub named : name s ≡ cluster
  pub records : record_count s ≡ H
  pub leaders : leader_count s ≡ L
  pub first : distance s 1 ≡ d1
  pub second : distance s 2 ≡ d2
  pub third : distance s 3 ≡ d3
  pub fourth : distance s 4 ≡ d4
  pub versioned : version s ≡ number

pub words_read : (s cluster : List ℕ) (H L d1 d2 d3 d4 number : ℕ) → length cluster ≡ name_size
    → H < 256 ^ 4 → L < 256 ^ 4 → d1 < 256 ^ 4 → d2 < 256 ^ 4 → d3 < 256 ^ 4 → d4 < 256 ^ 4 → number < 256 ^ 4
    → drop (trailer_at s) s ≡ cluster ++ be 4 H ++ be 4 L ++ be 4 d1 ++ be 4 d2 ++ be 4 d3 ++ be 4 d4 ++ be 4 number
    → Words s cluster H L d1 d2 d3 d4 number
unfolding name record_count leader_count distance version
words_read s cluster H L d1 d2 d3 d4 number c hH hL h1 h2 h3 h4 hn e =
    let nested : drop (trailer_at s) s
    ≡ cluster ++ (be 4 H ++ (be 4 L ++ (be 4 d1 ++ (be 4 d2 ++ (be 4 d3 ++ (be 4 d4 ++ (be 4 number ++ []))))))) =
    e ∙ simp (append_assoc, append-nil) in
    let start : trailer_at s + name_size ≡ trailer_at s + name_size + 4 * 0 = omega arith in
    let e0 = rw start at (next_field s (trailer_at s) cluster _ name_size c nested) in
    let e1 = word_next s 0 H _ e0 in
    let e2 = word_next s 1 L _ e1 in
    let e3 = word_next s 2 d1 _ e2 in
    let e4 = word_next s 3 d2 _ e3 in
    let e5 = word_next s 4 d3 _ e4 in
    let e6 = word_next s 5 d4 _ e5 in
    record {
      named = field_here s (trailer_at s) cluster _ name_size c nested;
      records = word-is s 0 H _ e0 hH;
      leaders = word-is s 1 L _ e1 hL;
      first = word-is s 2 d1 _ e2 h1;
      second = word-is s 3 d2 _ e3 h2;
      third = word-is s 4 d3 _ e4 h3;
      fourth = word-is s 5 d4 _ e5 h4;
      versioned = word-is s 6 number _ e6 hn;
    }
