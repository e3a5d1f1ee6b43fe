-- The steps of all chains (RFC 8554, 4.6, algorithm 4b; document 02, W7): at most p * (2^w - 1) for every width w, at least one for every
-- row of the table, and for 8-bit digits 510 and 255 more for each whole 256 in the checksum.
-- Assumes nothing.
use mathlib.Core.Path.{◌≡◌, refl, sym, ap, ◌∙◌}
use mathlib.Core.List.{List, [], ◌∷◌, ◌++◌}
use mathlib.Core.Logic.{⊎_elim}
use Prim.Native.Nat.{ℕ, zero, suc, ◌+◌, ◌-◌, ◌*◌, ◌/◌, ◌%◌, ◌^◌, ◌≤◌, ◌<◌}
use native.Mathlib.Nat.{add-zero, add-suc, zero-mul, suc-mul, div-one, zero-div, zero-mod, eq-zero-or-pos}
use native.Mathlib.Omega.{arith}
use lib.ListN.{length, get_or, replicate, get_or-append}
use lib.Pow.{pow_mono}
use lib.Seq.{get_or-append-add}
use Rattle.words.specs.BigEndian.{be}
use Rattle.lm_digits.specs.declared.Parameters.{Parameters}
use Rattle.lm_digits.specs.Parameters.{row, byte_digits, message_digits}
use Rattle.lm_digits.specs.Listed.{Listed}
use Rattle.lm_digits.specs.Digits.{coef, to_largest, sum, checksum, with_checksum, steps}
use Rattle.lm_digits.proofs.Widths.{width-pos, digit-inside}
use Rattle.lm_digits.proofs.Figures.{sum-le, known-width, known-message}

-- ---- counts worked out by hand

-- 8-bit digits: the lowest and the highest, and either side of a whole 256 in the checksum
byte_counts : (steps byte_digits (replicate 32 255) ≡ 510) × (steps byte_digits (replicate 32 0) ≡ 8415)
    × (steps byte_digits (0 ∷ replicate 31 255) ≡ 510) × (steps byte_digits (0 ∷ 254 ∷ replicate 30 255) ≡ 765)
unfolding steps with_checksum checksum sum to_largest coef row message_digits be
byte_counts = (refl, refl, refl, refl)

-- the other widths: bytes FF, of which the checksum's chains alone have steps, and bytes 0
width-counts : (steps (row 1 265 7) (replicate 32 255) ≡ 9) × (steps (row 2 133 6) (replicate 32 255) ≡ 15)
    × (steps (row 4 67 4) (replicate 32 255) ≡ 45) × (steps (row 1 265 7) (replicate 32 0) ≡ 264)
    × (steps (row 2 133 6) (replicate 32 0) ≡ 396) × (steps (row 4 67 4) (replicate 32 0) ≡ 990)
unfolding steps with_checksum checksum sum to_largest coef row message_digits be
width-counts = (refl, refl, refl, refl, refl, refl)

-- ---- every width

pub steps-le : (o : Parameters) (Q : List ℕ) → steps o Q ≤ o.chains * (2 ^ o.bits - 1)
unfolding steps
steps-le o Q = sum-le o.bits (with_checksum o Q) o.chains

sum-suc : (w : ℕ) (s : List ℕ) (i : ℕ) → sum w s (suc i) ≡ sum w s i + (2 ^ w - 1 - coef w s i)
unfolding sum to_largest
sum-suc w s i = refl

sum_more : (w : ℕ) (s : List ℕ) (i d : ℕ) → sum w s i ≤ sum w s (i + d)
unfolding sum
sum_more w s i zero = rw add-zero (omega arith)
sum_more w s i (suc d) = rw add-suc (omega (arith, sum_more w s i d))

checksum-none : (o : Parameters) (Q : List ℕ) → sum o.bits Q (message_digits o.bits) ≡ 0 → checksum o Q ≡ 0
unfolding checksum
checksum-none o Q e = rw (e, zero-mul)

-- the digits of the first bytes alone
pub sum_first : (w : ℕ) → w * (8 / w) ≡ 8 → (Q t : List ℕ) (i : ℕ) → i * w ≤ 8 * length Q → sum w (Q ++ t) i ≡ sum w Q i
unfolding sum to_largest coef
sum_first w whole Q t zero h = refl
sum_first w whole Q t (suc i) h =
    let inside : i * w / 8 < length Q = digit-inside w whole (suc i) (length Q) h i (omega arith) in
    let before : i * w ≤ 8 * length Q = omega (arith, rw suc-mul at h) in
    rw (sum_first w whole Q t i before, get_or-append Q t 0 (i * w / 8) inside)

-- ---- every row of the table

module _ (w : ℕ) (whole : w * (8 / w) ≡ 8) (Q : List ℕ) (u : ℕ) (ends : u * w ≡ 8 * length Q) where
  -- the first digit of a checksum that is 0 is 0 too
  digit-after : coef w (Q ++ be 2 0) u ≡ 0
  unfolding coef be
  digit-after =
      let place : u * w / 8 ≡ length Q + 0 = omega (arith, ends) in
      rw (place, get_or-append-add Q (0 ∷ 0 ∷ []) 0 0, zero-div, zero-mod)

  -- so a message's digits, or else this one, are short of the largest
  short-somewhere : (c p : ℕ) → u < p → (sum w Q u ≡ 0 → c ≡ 0) → 0 < sum w (Q ++ be 2 c) p
  short-somewhere c p more empty =
      let all : p ≡ suc u + (p - suc u) = omega arith in
      let first = sum_first w whole Q (be 2 c) u (omega (arith, ends)) in
      let up : sum w (Q ++ be 2 c) (suc u) ≤ sum w (Q ++ be 2 c) p =
      rw all (sum_more w (Q ++ be 2 c) (suc u) (p - suc u)) in
      let next = sum-suc w (Q ++ be 2 c) u in
      ⊎_elim
      (λ none.
      let zero-digit : coef w (Q ++ be 2 c) u ≡ 0 = rw (empty none) digit-after in
      omega (arith, up, next, zero-digit, pow_mono {i = 1} {j = w} (width-pos w whole)))
      (λ (some : 0 < sum w Q u). omega (arith, up, next, first))
      (eq-zero-or-pos (sum w Q u))

-- there is a step in any case
pub steps-some : (o : Parameters) → Listed o → (Q : List ℕ) → length Q ≡ 32 → 0 < steps o Q
unfolding steps with_checksum
steps-some o l Q long =
    let fits = known-message l.number l.found in
    short-somewhere o.bits (known-width l.number l.found) Q (message_digits o.bits) (omega (arith, fits.0, long))
    (checksum o Q) o.chains fits.1 (checksum-none o Q)

-- ---- 8-bit digits

-- a digit is a byte
byte_digit : (s : List ℕ) (i : ℕ) → coef 8 s i ≡ get_or s i 0 % 256
unfolding coef
byte_digit s i =
    let place : i * 8 / 8 ≡ i = omega arith in
    let rest : i % 1 ≡ 0 = omega arith in
    rw (place, rest, div-one)

-- two bytes after the others
sum_two : (Q : List ℕ) (h l m : ℕ) → length Q ≡ m
    → sum 8 (Q ++ (h ∷ l ∷ [])) (suc (suc m)) ≡ sum 8 Q m + (255 - h % 256) + (255 - l % 256)
sum_two Q h l m long =
    let t = h ∷ l ∷ [] in
    let high : get_or (Q ++ t) m 0 ≡ h = ap (λ n. get_or (Q ++ t) n 0) (omega (arith, long)) ∙ get_or-append-add Q t 0 0 in
    let low : get_or (Q ++ t) (suc m) 0 ≡ l = ap (λ n. get_or (Q ++ t) n 0) (omega (arith, long)) ∙ get_or-append-add Q t 1 0 in
    rw (sum-suc 8 (Q ++ t) (suc m), sum-suc 8 (Q ++ t) m, byte_digit (Q ++ t) m, byte_digit (Q ++ t) (suc m), high, low, sum_first 8 refl Q t m (omega (arith, long)))

-- with no shift the checksum is the sum itself
checksum-sum : (Q : List ℕ) → checksum byte_digits Q ≡ sum 8 Q 32
unfolding checksum row message_digits
checksum-sum Q = omega arith

checksum-most : (Q : List ℕ) → checksum byte_digits Q ≤ 8160
checksum-most Q = rw (checksum-sum Q) (sum-le 8 Q 32)

-- the sum c as quotient and rest by 256, which are the two digits of the checksum
parts : (h l : ℕ) → h ≤ 31 → l ≤ 255 → 256 * h + l + (255 - h) + (255 - l) ≡ 510 + 255 * h
parts h l p q = omega arith

counted : (c : ℕ) → c ≤ 8160 → c + (255 - c / 256 % 256 % 256) + (255 - c / 1 % 256 % 256) ≡ 510 + 255 * (c / 256)
counted c few =
    let high : c / 256 ≤ 31 = omega (arith, few) in
    let one : c / 256 % 256 % 256 ≡ c / 256 = omega (arith, high) in
    let two : c / 1 % 256 % 256 ≡ c % 256 = omega arith in
    let whole : 256 * (c / 256) + c % 256 ≡ c = omega arith in
    rw (one, two) (ap (λ n. n + (255 - c / 256) + (255 - c % 256)) (sym whole) ∙ parts (c / 256) (c % 256) high (omega arith))

pub steps-bytes : (Q : List ℕ) → length Q ≡ 32 → steps byte_digits Q ≡ 510 + 255 * (checksum byte_digits Q / 256)
unfolding steps with_checksum row be
steps-bytes Q long =
    let c = checksum byte_digits Q in
    let two = sum_two Q (c / 256 % 256) (c / 1 % 256) 32 long in
    two ∙ rw (← checksum-sum Q) (counted c (checksum-most Q))

pub steps-range : (Q : List ℕ) → length Q ≡ 32 → (510 ≤ steps byte_digits Q) × (steps byte_digits Q ≤ 8415)
steps-range Q long = rw (steps-bytes Q long) (omega arith, omega (arith, checksum-most Q))
