-- Words parsed one at a time, and blocks hashed in runs.
-- Assumes nothing.
use mathlib.Core.Path.{◌≡◌, refl, sym, ap, ◌∙◌}
use mathlib.Core.List.{List, [], ◌∷◌, ◌++◌, append_assoc, flat_map}
use Prim.Native.Nat.{ℕ, zero, suc, ◌+◌, ◌*◌, ◌/◌, ◌≤◌, ◌<◌}
use native.Mathlib.Nat.{zero-add, suc-add, mul-suc, mul_comm, add_comm}
use native.Mathlib.Numerals.{add-one}
use native.Mathlib.Omega.{arith}
use lib.ListN.{length, take, drop, set, length-append, length-drop, length-replicate, drop_of_length-le}
use lib.Seq.{length-take-le, take-add, drop-drop, take-suc-set, take-append-le, drop-append-le}
use Rattle.words.specs.BigEndian.{number, number_at, be}
use Rattle.words.proofs.Bytes.{Bytes}
use Rattle.words.proofs.Laws.{length-be, be-number, bytes_take, bytes_drop}
use Rattle.sha256.specs.declared.State.{State}
use Rattle.sha256.specs.Sha256.{parse, compress, blocks, hash, initial, zeros, padding, bytes_of, sha256}

-- ---- words of a block

-- one word more at the end
pub parse_snoc : (i : ℕ) (xs : List ℕ) → parse (suc i) xs ≡ parse i xs ++ (number_at 4 xs (4 * i) ∷ [])
unfolding parse number_at
parse_snoc zero xs = refl
parse_snoc (suc i) xs =
    rw (mul-suc, add_comm (4 * i) 4, ← drop-drop (4 * i) 4 xs) (ap (λ (l : List ℕ). number (take 4 xs) ∷ l) (parse_snoc i (drop 4 xs)))

-- one word more in an array that is filled from the front
pub parse_step : (i : ℕ) (xs m : List ℕ) (x : ℕ) → i < length m → x ≡ number_at 4 xs (4 * i) → take i m ≡ parse i xs
    → take (i + 1) (set m i x) ≡ parse (i + 1) xs
parse_step i xs m x h e t = rw (add-one, take-suc-set m i x h, t, e, parse_snoc i xs)

-- the first word at a place, then the others
pub parse_at : (n : ℕ) (xs : List ℕ) (at : ℕ) → parse (suc n) (drop at xs) ≡ number_at 4 xs at ∷ parse n (drop (at + 4) xs)
unfolding parse number_at
parse_at n xs at = rw drop-drop

-- the bytes of the words are the list's
pub bytes-parse : (n : ℕ) (xs : List ℕ) → Bytes xs → 4 * n ≤ length xs → flat_map (be 4) (parse n xs) ≡ take (4 * n) xs
unfolding parse flat_map
bytes-parse zero xs b h = refl
bytes-parse (suc n) xs b h =
    let four : 4 ≤ length xs = omega (arith, mul-suc 4 n) in
    let more : 4 * n ≤ length (drop 4 xs) = simp length-drop (omega (arith, mul-suc 4 n)) in
    let word : be 4 (number (take 4 xs)) ≡ take 4 xs =
    ap (λ (k : ℕ). be k (number (take 4 xs))) (sym (length-take-le 4 xs four)) ∙ be-number (bytes_take 4 xs b) in
    rw (word, bytes-parse n (drop 4 xs) (bytes_drop 4 xs b) more, mul-suc, add_comm (4 * n) 4, take-add 4 (4 * n) xs)

-- ---- blocks in runs

pub blocks-add : (m n : ℕ) (s : State) (bytes : List ℕ) → blocks (m + n) s bytes ≡ blocks n (blocks m s bytes) (drop (64 * m) bytes)
unfolding blocks
blocks-add zero n s bytes = rw zero-add
blocks-add (suc m) n s bytes =
    rw (suc-add, mul-suc, add_comm (64 * m) 64, ← drop-drop (64 * m) 64 bytes)
    (blocks-add m n (compress s (parse 16 bytes)) (drop 64 bytes))

-- ---- a list in front of another

parse_front : (k : ℕ) (xs ys : List ℕ) → 4 * k ≤ length xs → parse k (xs ++ ys) ≡ parse k xs
unfolding parse
parse_front zero xs ys h = refl
parse_front (suc k) xs ys h =
    let room : 4 ≤ length xs = omega (arith, mul-suc 4 k) in
    let more : 4 * k ≤ length (drop 4 xs) = simp length-drop (omega (arith, mul-suc 4 k)) in
    rw (take-append-le 4 xs ys room, drop-append-le 4 xs ys room, parse_front k (drop 4 xs) ys more)

blocks_front : (n : ℕ) (s : State) (xs ys : List ℕ) → 64 * n ≤ length xs → blocks n s (xs ++ ys) ≡ blocks n s xs
unfolding blocks
blocks_front zero s xs ys h = refl
blocks_front (suc n) s xs ys h =
    let room : 64 ≤ length xs = omega (arith, mul-suc 64 n) in
    let more : 64 * n ≤ length (drop 64 xs) = simp length-drop (omega (arith, mul-suc 64 n)) in
    rw (parse_front 16 xs ys (omega arith), drop-append-le 64 xs ys room, blocks_front n (compress s (parse 16 xs)) (drop 64 xs) ys more)

-- ---- the hash value of a list, in two steps

-- the whole blocks of the first list, then what is left of it with the second
pub hash_rest : (n : ℕ) (s : State) (xs ys : List ℕ) → 64 * n ≤ length xs → length xs < 64 * n + 64
    → hash s (xs ++ ys) ≡ hash (hash s xs) (drop (64 * n) xs ++ ys)
unfolding hash
hash_rest n s xs ys low high =
    let count : length (xs ++ ys) / 64 ≡ n + length (drop (64 * n) xs ++ ys) / 64 = simp (length-append, length-drop) (omega arith) in
    let first : length xs / 64 ≡ n = omega arith in
    rw (
      count,
      first,
      blocks-add n (length (drop (64 * n) xs ++ ys) / 64) s (xs ++ ys),
      blocks_front n s xs ys low,
      drop-append-le (64 * n) xs ys low,
    )

pub hash-one : (s : State) (xs : List ℕ) → length xs ≡ 64 → hash s xs ≡ compress s (parse 16 xs)
unfolding hash blocks
hash-one s xs h = rw h

-- a block, then what follows it
pub hash_block : (s : State) (xs ys : List ℕ) → length xs ≡ 64 → hash s (xs ++ ys) ≡ hash (compress s (parse 16 xs)) ys
hash_block s xs ys h =
    hash_rest 1 s xs ys (omega arith) (omega arith) ∙ rw (drop_of_length-le xs {i = 64} (omega arith), hash-one s xs h)

pub hash_two : (s : State) (xs ys : List ℕ) → length xs ≡ 64 → length ys ≡ 64
    → hash s (xs ++ ys) ≡ compress (compress s (parse 16 xs)) (parse 16 ys)
hash_two s xs ys h k = hash_block s xs ys h ∙ hash-one (compress s (parse 16 xs)) ys k

-- less than a block changes nothing
pub hash_end : (s : State) (xs : List ℕ) → length xs < 64 → hash s xs ≡ s
unfolding hash blocks
hash_end s xs h = let none : length xs / 64 ≡ 0 = omega arith in rw none

-- the digest of a message: its whole blocks, then what is left of it with the padding
pub sha256_split : (m : List ℕ)
    → sha256 m ≡ bytes_of (hash (hash initial m) (drop (length m / 64 * 64) m ++ padding (length m)))
unfolding sha256
sha256_split m =
    rw (hash_rest (length m / 64) initial m (padding (length m)) (omega arith) (omega arith), mul_comm 64 (length m / 64))

-- a message of fewer than 56 bytes takes one block
pub sha256-one : (m : List ℕ) (n : ℕ) → length m ≡ n → n < 56 → sha256 m ≡ bytes_of (compress initial (parse 16 (m ++ padding n)))
unfolding sha256 padding zeros
sha256-one m n e h =
    let long : length (m ++ padding n) ≡ 64 = simp (length-append, length-replicate, length-be, e) (omega arith) in
    rw e (ap bytes_of (hash-one initial (m ++ padding n) long))

-- the digest of a first block and what follows it
pub sha256_head : (first rest : List ℕ) → length first ≡ 64
    → sha256 (first ++ rest)
    ≡ bytes_of (hash (hash (compress initial (parse 16 first)) rest) (drop (length rest / 64 * 64) rest ++ padding (64 + length rest)))
unfolding sha256
sha256_head first rest h =
    let count : length (first ++ rest) ≡ 64 + length rest = length-append first rest ∙ ap (λ (n : ℕ). n + length rest) h in
    rw (
      count,
      append_assoc,
      hash_rest 1 initial first (rest ++ padding (64 + length rest)) (omega arith) (omega arith),
      drop_of_length-le first {i = 64} (omega arith),
      hash-one initial first h,
      hash_rest (length rest / 64) (compress initial (parse 16 first)) rest (padding (64 + length rest)) (omega arith) (omega arith),
      mul_comm 64 (length rest / 64),
    )
