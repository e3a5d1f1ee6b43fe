-- Two lists, one after the other, read byte by byte and cut at the end of the first block.
-- Assumes nothing.
use mathlib.Core.Path.{◌≡◌, refl, sym, ap, ◌∙◌}
use mathlib.Core.List.{List, [], ◌∷◌, ◌++◌, append_assoc}
use Prim.Native.Nat.{ℕ, zero, suc, ◌+◌, ◌-◌, ◌*◌, ◌/◌, ◌≤◌, ◌<◌, min}
use native.Mathlib.Omega.{arith}
use lib.ListN.{length, take, drop, replicate, length-append, length-drop, take-append-drop}
use lib.Seq.{take_at, drop_at, take-append-le, take-take, take_all, drop-append-add, length-take-le}
use borrow.Rule.Slice.PartMut.{put_mid}
use Rattle.std.proofs.lemmas.List.{take_min, take-replicate, drop-replicate}
use Rattle.sha256.specs.Sha256.{initial, padding, parse, compress, hash, bytes_of, sha256}
use Rattle.sha256.proofs.Blocks.{sha256_head}

-- ---- the first block

-- of the two, so much of the first and then of the second
take_both : (k : ℕ) (xs ys : List ℕ) → take k (xs ++ ys) ≡ take k xs ++ take (k - length xs) ys
take_both zero [] ys = refl
take_both zero (x ∷ xs) ys = let none : 0 - suc (length xs) ≡ 0 = omega arith in rw none
take_both (suc k) [] ys = let all : suc k - 0 ≡ suc k = omega arith in rw all
take_both (suc k) (x ∷ xs) ys = let less : suc k - suc (length xs) ≡ k - length xs = omega arith in rw less (ap (λ l. x ∷ l) (take_both k xs ys))

take_least : (k n : ℕ) (xs : List ℕ) → n ≡ min (length xs) k → take n xs ≡ take k xs
take_least k n xs h = let turned : n ≡ min k (length xs) = omega arith in rw turned (take_min k xs)

-- what is copied to a block, and zeros after it
pub filled : (xs ys : List ℕ) (n m : ℕ) → n ≡ min (length xs) 64 → m ≡ min (length ys) (64 - n)
    → take n xs ++ (take m ys ++ replicate (64 - n - m) 0) ≡ take 64 ((xs ++ ys) ++ replicate 64 0)
filled xs ys n m h k =
    let room : 64 - n ≡ 64 - length xs = omega arith in
    let zeros : 64 - length (xs ++ ys) ≡ 64 - n - m = rw length-append (omega arith) in
    rw (
      take_both 64 (xs ++ ys) (replicate 64 0),
      take_both 64 xs ys,
      zeros,
      take-replicate {X = ℕ} (64 - n - m) 64 0 (omega arith),
      take_least 64 n xs h,
      take_least (64 - n) m ys k,
      room,
      append_assoc,
    )

pub placed : (xs ys a b : List ℕ) (n m : ℕ) → a ≡ take n xs → b ≡ take m ys → n ≡ min (length xs) 64 → m ≡ min (length ys) (64 - n)
    → put_mid n (n + m - n) (a ++ drop n (replicate 64 0)) b ≡ take 64 ((xs ++ ys) ++ replicate 64 0)
placed xs ys a b n m ea eb h k =
    let long : length a ≡ n = rw ea (length-take-le n xs (omega arith)) in
    let size : n + m - n ≡ m = omega arith in
    rw (
      size,
      take_at a (drop n (replicate 64 0)) n long,
      drop_at a (drop n (replicate 64 0)) n long,
      drop-replicate {X = ℕ} n 64 0,
      drop-replicate {X = ℕ} m (64 - n) 0,
      ea,
      eb,
    )
    (filled xs ys n m h k)

-- a list that ends in it
pub all_of : (l : List ℕ) → length l < 64 → take (length l) (take 64 (l ++ replicate 64 0)) ≡ l
all_of l h =
    take-take (length l) 64 (l ++ replicate 64 0) (omega arith) ∙ take-append-le (length l) l (replicate 64 0) (omega arith)
    ∙ take_all (length l) l (omega arith)

-- a list that goes on
pub first_of : (l : List ℕ) → 64 ≤ length l → take 64 (l ++ replicate 64 0) ≡ take 64 l
first_of l h = take-append-le 64 l (replicate 64 0) h

-- two lists of 54 bytes, and a message after them
pub salted : (front salt message : List ℕ) → length front ≡ 22 → length salt ≡ 32
    → take 54 (take 64 ((front ++ salt) ++ replicate 64 0)) ++ message ≡ front ++ (salt ++ message)
salted front salt message f g =
    let count : length (front ++ salt) ≡ 54 = simp (length-append, f, g) in
    rw (← count, all_of (front ++ salt) (omega arith), append_assoc)

-- ---- the digest of the two

module _ (head message : List ℕ) where
  -- both in the first block
  pub short-digest : length head + length message < 64
      → bytes_of (hash initial (take (length head + length message) (take 64 ((head ++ message) ++ replicate 64 0)) ++ padding (length head + length message)))
      ≡ sha256 (head ++ message)
  unfolding sha256
  short-digest h =
      let count = length-append head message in
      rw (← count, all_of (head ++ message) (rw count h))

  -- more than the first block
  pub long-digest : length head ≤ 64 → 64 ≤ length head + length message
      → let rest = drop (64 - length head) message in
      bytes_of (hash (hash (compress initial (parse 16 (take 64 ((head ++ message) ++ replicate 64 0)))) rest)
      (drop (length rest / 64 * 64) rest ++ padding (length head + length message)))
      ≡ sha256 (head ++ message)
  long-digest fits h =
      let l = head ++ message in
      let count = length-append head message in
      let more : 64 ≤ length l = rw count h in
      let place : length head + (64 - length head) ≡ 64 = omega arith in
      let after : drop 64 l ≡ drop (64 - length head) message =
      ap (λ (n : ℕ). drop n l) (sym place) ∙ drop-append-add head message (64 - length head) in
      let all : 64 + length (drop 64 l) ≡ length head + length message = simp length-drop (omega arith) in
      rw (first_of l more, ← after, ← all, ← sha256_head (take 64 l) (drop 64 l) (length-take-le 64 l more), take-append-drop)
