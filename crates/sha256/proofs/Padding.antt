-- The padding of a message's last bytes: how a block is filled, and that one or two blocks hold what FIPS 180-4 appends.
-- Assumes nothing.
use mathlib.Core.Path.{◌≡◌, refl, sym, ap, ◌∙◌}
use mathlib.Core.List.{List, ◌∷◌, ◌++◌, append_assoc, append-nil}
use Prim.Native.Nat.{ℕ, suc, ◌+◌, ◌-◌, ◌*◌, ◌%◌, ◌^◌, ◌≤◌, ◌<◌}
use native.Mathlib.Nat.{mod-lt}
use native.Mathlib.Omega.{arith}
use lib.ListN.{length, take, drop, set, replicate, drop_of_length-le, length-append, length-replicate, replicate-append-replicate}
use lib.Seq.{set_at, take_at, sets, sets-eq}
use lib.Dec.{lit<}
use Rattle.std.proofs.lemmas.List.{drop-replicate}
use Rattle.words.specs.BigEndian.{be}
use Rattle.words.proofs.Laws.{be_pad, length-be}
use Rattle.sha256.specs.declared.State.{State}
use Rattle.sha256.specs.Sha256.{zeros, padding, parse, compress, hash}
use Rattle.sha256.proofs.Blocks.{hash-one, hash_two}

-- ---- a block that is filled from the front

-- one byte more where the zeros begin
pub fill_next : (xs : List ℕ) (x : ℕ) → length xs < 64
    → set (xs ++ drop (length xs) (replicate 64 0)) (length xs) x ≡ xs ++ x ∷ replicate (63 - length xs) 0
fill_next xs x room =
    let count : 64 - length xs ≡ suc (63 - length xs) = omega arith in
    rw (drop-replicate, count, set_at xs 0 (replicate (63 - length xs) 0) x (length xs) refl)

-- bytes stored at a list's end
pub sets_end : (l vs : List ℕ) (n : ℕ) → length l ≡ n + length vs → sets l n vs ≡ take n l ++ vs
sets_end l vs n h =
    sets-eq vs l n (omega arith)
    ∙ rw (drop_of_length-le l {i = n + length vs} (omega arith), append-nil)

-- ---- what is appended, as one block or two

-- the last bytes, the byte 128 and k zeros
ended : List ℕ → ℕ → List ℕ
ended tail k = tail ++ 128 ∷ replicate k 0

ended_add : (tail : List ℕ) (a b : ℕ) → ended tail (a + b) ≡ ended tail a ++ replicate b 0
unfolding ended
ended_add tail a b =
    ap (λ (l : List ℕ). tail ++ 128 ∷ l) (sym (replicate-append-replicate a b 0))
    ∙ sym (append_assoc tail (128 ∷ replicate a 0) (replicate b 0))

-- the length in bits is below 2^32, so the first four of its eight bytes are zeros as well
padding_split : (tail : List ℕ) (total : ℕ) → total < 2 ^ 29
    → tail ++ padding total ≡ ended tail (zeros total + 4) ++ be 4 (8 * total)
unfolding padding ended
padding_split tail total few =
    ap (λ (l : List ℕ). tail ++ 128 ∷ (replicate (zeros total) 0 ++ l)) (be_pad 4 4 (8 * total) (omega arith))
    ∙ ap (λ (l : List ℕ). tail ++ 128 ∷ l) (sym (append_assoc (replicate (zeros total) 0) (replicate 4 0) (be 4 (8 * total))))
    ∙ ap (λ (l : List ℕ). tail ++ 128 ∷ (l ++ be 4 (8 * total))) (replicate-append-replicate (zeros total) 4 0)
    ∙ sym (append_assoc tail (128 ∷ replicate (zeros total + 4) 0) (be 4 (8 * total)))

length_ended : (tail : List ℕ) (k : ℕ) → length (ended tail k) ≡ length tail + suc k
unfolding ended
length_ended tail k = length-append tail (128 ∷ replicate k 0) ∙ ap (λ (n : ℕ). length tail + suc n) (length-replicate k 0)

with_length : (xs : List ℕ) (n : ℕ) → length (xs ++ be 4 n) ≡ length xs + 4
with_length xs n = length-append xs (be 4 n) ∙ ap (λ (k : ℕ). length xs + k) (length-be 4 n)

module _ (s : State) (tail : List ℕ) (total : ℕ) (rest : length tail ≡ total % 64) (few : total < 2 ^ 29) where
  -- fewer than 56 bytes: the length stands in the same block
  pub one_block : length tail < 56
      → hash s (tail ++ padding total)
      ≡ compress s (parse 16 (take 60 (tail ++ 128 ∷ replicate (63 - length tail) 0) ++ be 4 (8 * total)))
  unfolding zeros ended
  one_block short =
      let count : zeros total + 4 ≡ 59 - length tail = omega arith in
      let all : 63 - length tail ≡ 59 - length tail + 4 = omega arith in
      let front = ended tail (59 - length tail) in
      let whole : length front ≡ 60 = length_ended tail (59 - length tail) ∙ omega arith in
      let cut : take 60 (ended tail (63 - length tail)) ≡ front =
      ap (λ (k : ℕ). take 60 (ended tail k)) all ∙ ap (take 60) (ended_add tail (59 - length tail) 4)
      ∙ take_at front (replicate 4 0) 60 whole in
      let block : tail ++ padding total ≡ front ++ be 4 (8 * total) =
      padding_split tail total few ∙ ap (λ (k : ℕ). ended tail k ++ be 4 (8 * total)) count in
      ap (hash s) block
      ∙ hash-one s (front ++ be 4 (8 * total)) (with_length front (8 * total) ∙ ap (λ (k : ℕ). k + 4) whole)
      ∙ ap (λ (l : List ℕ). compress s (parse 16 (l ++ be 4 (8 * total)))) (sym cut)

  -- otherwise in a block of its own
  pub two_blocks : 56 ≤ length tail
      → hash s (tail ++ padding total)
      ≡ compress (compress s (parse 16 (tail ++ 128 ∷ replicate (63 - length tail) 0))) (parse 16 (replicate 60 0 ++ be 4 (8 * total)))
  unfolding zeros ended
  two_blocks long =
      let short : total % 64 < 64 = mod-lt total (lit< tt) in
      let count : zeros total + 4 ≡ 63 - length tail + 60 = omega arith in
      let front = ended tail (63 - length tail) in
      let whole : length front ≡ 64 = length_ended tail (63 - length tail) ∙ omega arith in
      ap (hash s)
      (padding_split tail total few
      ∙ ap (λ (l : List ℕ). l ++ be 4 (8 * total)) (ap (ended tail) count ∙ ended_add tail (63 - length tail) 60)
      ∙ append_assoc front (replicate 60 0) (be 4 (8 * total)))
      ∙ hash_two s front (replicate 60 0 ++ be 4 (8 * total)) whole
      (with_length (replicate 60 0) (8 * total))
