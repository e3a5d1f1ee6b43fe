-- The laws of big-endian numbers, over the width: length, bytes, value and injectivity of `be`, and how a number at a place is read byte by byte.
-- Assumes nothing.
use mathlib.Core.Path.{◌≡◌, refl, sym, ap, ◌∙◌}
use mathlib.Core.List.{List, [], ◌∷◌, ◌++◌, append_assoc}
use mathlib.Core.Logic.{◌⊎◌, inl, inr}
use Prim.Native.Nat.{ℕ, zero, suc, ◌+◌, ◌-◌, ◌*◌, ◌/◌, ◌%◌, ◌^◌, ◌≤◌, ◌<◌}
use native.Mathlib.Nat.{add-zero, add-suc, add_comm, add-mul-div_right, mul-add-mod_self_right, le_refl, zero-mul, add-mul, mul_assoc, zero-add, suc-add, pow-le-pow_right, div-eq_of_lt, lt_of_lt_of_le, add_assoc, mod-lt, mod-one, mod-eq_of_lt, pow-suc, pow-succ', div-one, mul_comm, div-div-eq-div-mul}
use native.Mathlib.Numerals.{add-one}
use native.Mathlib.Omega.{arith}
use Rattle.std.specs.Int.{w16, w32, w64, to_be_bytes}
use lib.Arith.{mod-mul, digits_lt, digits_div}
use lib.Pow.{pow-add}
use lib.Dec.{lit<}
use lib.ListN.{length, take, drop, get_or, length-take, length-drop, length-append, replicate, set}
use borrow.Rule.Slice.PartMut.{put_mid}
use lib.Seq.{take-nil, take-suc, drop-cons, drop-drop, drop-set-lt, drop-set-add, take_all, take_at, take-take, take-set-le, drop_at, length-take-le, sets, sets-eq, get_or-drop}
use Rattle.words.specs.BigEndian.{number, be, number_at}
use Rattle.words.proofs.Bytes.{Bytes, none, more}

-- ---- powers of 256

pub pow_256_pos : (w : ℕ) → 0 < 256 ^ w
pow_256_pos zero = lit< tt
pow_256_pos (suc w) = let h = pow_256_pos w in rw pow-suc (omega arith)

-- ---- the bytes of a number

pub length-be : (w n : ℕ) → length (be w n) ≡ w
unfolding be
length-be zero n = refl
length-be (suc w) n = ap suc (length-be w n)

pub bytes-be : (w n : ℕ) → Bytes (be w n)
unfolding be
bytes-be zero n = none
bytes-be (suc w) n = more (mod-lt (n / 256 ^ w) (lit< tt)) (bytes-be w n)

pub number-be-mod : (w n : ℕ) → number (be w n) ≡ n % 256 ^ w
unfolding be number
number-be-mod zero n = sym (mod-one n)
number-be-mod (suc w) n =
    rw (length-be w n, number-be-mod w n, pow-succ' 256 w, mod-mul n {m = 256} {c = 256 ^ w} (lit< tt) (pow_256_pos w))

pub number-be : (w n : ℕ) → n < 256 ^ w → number (be w n) ≡ n
number-be w n h = number-be-mod w n ∙ mod-eq_of_lt h

pub be-injective : (w : ℕ) {m n : ℕ} → m < 256 ^ w → n < 256 ^ w → be w m ≡ be w n → m ≡ n
be-injective w {m} {n} hm hn e = sym (number-be w m hm) ∙ ap number e ∙ number-be w n hn

-- ---- the number of a list of bytes

pub number_lt : {bs : List ℕ} → Bytes bs → number bs < 256 ^ length bs
unfolding number
number_lt none = lit< tt
number_lt (more {b = b} {bs = bs} h t) = rw pow-succ' (digits_lt h (number_lt t))

pub number_append : (xs ys : List ℕ) → number (xs ++ ys) ≡ number xs * 256 ^ length ys + number ys
unfolding number
number_append [] ys = rw (zero-mul, zero-add)
number_append (x ∷ xs) ys =
    rw (number_append xs ys, length-append xs ys, pow-add 256 (length xs) (length ys), add-mul, mul_assoc, add_assoc)

-- ---- beginnings of lists

-- the rest of a beginning
pub drop-take : (a b : ℕ) (l : List ℕ) → drop a (take (a + b) l) ≡ take b (drop a l)
drop-take zero b l = ap (λ k. take k l) (zero-add b)
drop-take (suc a) b [] = ap (λ k. drop (suc a) (take k [])) (suc-add a b) ∙ sym (take-nil b)
drop-take (suc a) b (x ∷ xs) = ap (λ k. drop (suc a) (take k (x ∷ xs))) (suc-add a b) ∙ drop-take a b xs

-- ---- lists of bytes

pub bytes_each : (l : List ℕ) → ((i : ℕ) → get_or l i 0 < 256) → Bytes l
bytes_each [] h = none
bytes_each (x ∷ xs) h = more (h 0) (bytes_each xs (λ i. h (suc i)))

pub bytes_drop : (n : ℕ) (l : List ℕ) → Bytes l → Bytes (drop n l)
bytes_drop zero l h = h
bytes_drop (suc n) [] h = none
bytes_drop (suc n) (x ∷ xs) (more b t) = bytes_drop n xs t

pub bytes_take : (n : ℕ) (l : List ℕ) → Bytes l → Bytes (take n l)
bytes_take zero l h = none
bytes_take (suc n) [] h = none
bytes_take (suc n) (x ∷ xs) (more b t) = more b (bytes_take n xs t)

-- ---- the end of a list

-- a part that ends where the list does
pub part_end : (l : List ℕ) (n : ℕ) → take (length l - n) (drop n l) ≡ drop n l
part_end l n = take_all (length l - n) (drop n l) (rw length-drop (le_refl (length l - n)))

-- a part of so many elements, from its start to its end
pub part_from : (l : List ℕ) (n k : ℕ) → take (n + k - n) (drop n l) ≡ take k (drop n l)
part_from l n k = let size : n + k - n ≡ k = omega arith in ap (λ (m : ℕ). take m (drop n l)) size

-- ---- a number at a place

-- the highest byte, then the number of the bytes after it
pub number_at-suc : (w : ℕ) (s : List ℕ) (at : ℕ) → at + suc w ≤ length s
    → number_at (suc w) s at ≡ get_or s at 0 * 256 ^ w + number_at w s (at + 1)
unfolding number_at number
number_at-suc w s at h =
    let inside : at < length s = omega arith in
    let rest : length (take w (drop (suc at) s)) ≡ w = simp (length-take, length-drop) (omega arith) in
    rw (add-one, drop-cons s at 0 inside, rest)

pub number_at-zero : (s : List ℕ) (at : ℕ) → number_at 0 s at ≡ 0
unfolding number_at number
number_at-zero s at = refl

one_byte : (a b : ℕ) → a * 256 ^ 1 + number (b ∷ []) ≡ a * 256 + b
unfolding number
one_byte a b = omega arith

-- the number of the bytes before the last, then the lowest byte
pub number_at_more : (w : ℕ) (s : List ℕ) (at : ℕ) → at + suc w ≤ length s
    → number_at (suc w) s at ≡ number_at w s at * 256 + get_or s (at + w) 0
unfolding number_at
number_at_more w s at h =
    let inside : w < length (drop at s) = rw length-drop (omega arith) in
    ap number (take-suc (drop at s) w 0 inside)
    ∙ number_append (take w (drop at s)) (get_or (drop at s) w 0 ∷ [])
    ∙ one_byte (number (take w (drop at s))) (get_or (drop at s) w 0)
    ∙ ap (λ (b : ℕ). number (take w (drop at s)) * 256 + b) (get_or-drop at s w 0)

-- a byte more stays below the next power
pub number_step : (i v b : ℕ) → v < 256 ^ i → b < 256 → v * 256 + b < 256 ^ suc i
number_step i v b h k = rw pow-suc (omega arith)

pow_256_le : (i j : ℕ) → i ≤ j → 256 ^ i ≤ 256 ^ j
pow_256_le i j h = pow-le-pow_right (lit< tt) h

-- below eight bytes, a byte more fits 64 bits
pub number-room : (i v : ℕ) → i < 8 → v < 256 ^ i → v < 72057594037927936
number-room i v h k = lt_of_lt_of_le k (pow_256_le i 7 (omega arith))

pub number_at-2 : (s : List ℕ) (at : ℕ) → at + 2 ≤ length s → number_at 2 s at ≡ get_or s at 0 * 256 + get_or s (at + 1) 0
number_at-2 s at h =
    rw (number_at-suc 1 s at h, number_at-suc 0 s (at + 1) (omega arith), number_at-zero) (omega arith)

pub number_at-4 : (s : List ℕ) (at : ℕ) → at + 4 ≤ length s
    → number_at 4 s at
    ≡ get_or s at 0 * 16777216 + get_or s (at + 1) 0 * 65536 + get_or s (at + 2) 0 * 256 + get_or s (at + 3) 0
number_at-4 s at h =
    rw (number_at-suc 3 s at h, number_at-suc 2 s (at + 1) (omega arith), add_assoc, number_at-2 s (at + 2) (omega arith), add_assoc)
    (omega arith)

-- a number of so many bytes fits them
pub number_at-lt : (w : ℕ) (s : List ℕ) (at : ℕ) → Bytes s → number_at w s at < 256 ^ w
unfolding number_at
number_at-lt w s at h =
    let bytes = bytes_take w (drop at s) (bytes_drop at s h) in
    let few : length (take w (drop at s)) ≤ w = rw length-take (omega arith) in
    lt_of_lt_of_le (number_lt bytes) (pow-le-pow_right (lit< tt) few)

-- a number at a place of a part
pub number_at-drop : (w : ℕ) (xs : List ℕ) (n at : ℕ) → number_at w (drop n xs) at ≡ number_at w xs (n + at)
unfolding number_at
number_at-drop w xs n at = rw drop-drop

-- the number of a part of so many bytes
pub number_at_part : (w : ℕ) (s : List ℕ) (at : ℕ) → number_at w (take (at + w - at) (drop at s)) 0 ≡ number_at w s at
unfolding number_at
number_at_part w s at =
    ap (λ (l : List ℕ). number (take w l)) (part_from s at w) ∙ ap number (take-take w w (drop at s) (le_refl w))

-- ---- more bytes than a number needs

pub be_pad : (k w n : ℕ) → n < 256 ^ w → be (k + w) n ≡ replicate k 0 ++ be w n
unfolding be
be_pad zero w n h = rw zero-add
be_pad (suc k) w n h =
    let more : 256 ^ w ≤ 256 ^ (k + w) = pow-le-pow_right (lit< tt) (omega arith) in
    rw (suc-add, div-eq_of_lt (lt_of_lt_of_le h more), be_pad k w n h)

-- ---- bytes back from their number

-- more than the lowest bytes does not count
be_low : (w q r : ℕ) → be w (q * 256 ^ w + r) ≡ be w r
unfolding be
be_low zero q r = refl
be_low (suc w) q r =
    let whole : q * 256 ^ suc w ≡ q * 256 * 256 ^ w = rw (pow-succ', mul_assoc) in
    let first : (q * 256 * 256 ^ w + r) / 256 ^ w % 256 ≡ r / 256 ^ w % 256 =
    rw (
      add_comm (q * 256 * 256 ^ w) r,
      add-mul-div_right r (q * 256) (pow_256_pos w),
      add_comm (r / 256 ^ w) (q * 256),
      mul-add-mod_self_right q 256 (r / 256 ^ w),
    ) in
    rw (whole, first, be_low w (q * 256) r)

pub be-number : {bs : List ℕ} → Bytes bs → be (length bs) (number bs) ≡ bs
unfolding be number
be-number none = refl
be-number (more {b = b} {bs = bs} h t) =
    rw (digits_div b (number_lt t), mod-eq_of_lt h, be_low (length bs) b (number bs), be-number t)

-- ---- runs of stores

pub sets-append : (l : List ℕ) (i : ℕ) (xs ys : List ℕ) → sets l i (xs ++ ys) ≡ sets (sets l i xs) (i + length xs) ys
sets-append l i [] ys = rw add-zero
sets-append l i (x ∷ xs) ys = rw (add-suc, ← suc-add) (sets-append (set l i x) (suc i) xs ys)

-- one element more
pub sets_more : (l : List ℕ) (at : ℕ) (xs : List ℕ) (i : ℕ) → i < length xs
    → set (sets l at (take i xs)) (at + i) (get_or xs i 0) ≡ sets l at (take (i + 1) xs)
sets_more l at xs i h =
    rw (add-one, take-suc xs i 0 h, sets-append l at (take i xs) (get_or xs i 0 ∷ []), length-take-le i xs (omega arith))

-- a part that was written over, as a run of stores
pub sets_part : (l vs : List ℕ) (at : ℕ) → at + length vs ≤ length l → put_mid at (at + length vs - at) l vs ≡ sets l at vs
sets_part l vs at h =
    let size : at + length vs - at ≡ length vs = omega arith in
    rw (size, sets-eq vs l at h, drop-drop, append_assoc)

-- what stands before and in a run of stores
pub take-sets : (l vs : List ℕ) (k : ℕ) → k + length vs ≤ length l → take (k + length vs) (sets l k vs) ≡ take k l ++ vs
take-sets l vs k h =
    let long : length (take k l ++ vs) ≡ k + length vs =
    length-append (take k l) vs ∙ ap (λ (n : ℕ). n + length vs) (length-take-le k l (omega arith)) in
    rw (sets-eq vs l k h) (take_at (take k l ++ vs) (drop (k + length vs) l) (k + length vs) long)

-- what a run of stores has put
pub part_put : (l vs : List ℕ) (at : ℕ) → at + length vs ≤ length l → take (length vs) (drop at (sets l at vs)) ≡ vs
part_put l vs at h = sym (drop-take at (length vs) (sets l at vs)) ∙ rw (take-sets l vs at h) (drop_at (take at l) vs at (length-take-le at l (omega arith)))

-- and what it leaves
part_set : (l : List ℕ) (a n i v : ℕ) → (i < a) ⊎ (a + n ≤ i) → take n (drop a (set l i v)) ≡ take n (drop a l)
part_set l a n i v (inl h) = rw (drop-set-lt a l i v h)
part_set l a n i v (inr h) =
    let there : i ≡ a + (i - a) = omega arith in
    ap (λ (j : ℕ). take n (drop a (set l j v))) there
    ∙ ap (take n) (drop-set-add a l (i - a) v)
    ∙ take-set-le n (drop a l) (i - a) v (omega arith)

pub part_sets : (vs l : List ℕ) (a n i : ℕ) → (i + length vs ≤ a) ⊎ (a + n ≤ i) → take n (drop a (sets l i vs)) ≡ take n (drop a l)
part_sets [] l a n i h = refl
part_sets (v ∷ vs) l a n i (inl h) = part_sets vs (set l i v) a n (suc i) (inl (omega arith)) ∙ part_set l a n i v (inl (omega arith))
part_sets (v ∷ vs) l a n i (inr h) = part_sets vs (set l i v) a n (suc i) (inr (omega arith)) ∙ part_set l a n i v (inr h)

-- stores from the place k, where what was written ends, to the place j
pub sets_next : (w e vs : List ℕ) (k j : ℕ) → length w ≡ k → k + length vs ≡ j → j ≤ length e
    → sets (w ++ drop k e) k vs ≡ (w ++ vs) ++ drop j e
sets_next w e vs k j hw hj h =
    let long : k + length vs ≤ length (w ++ drop k e) = rw (length-append, length-drop, hw) (omega arith) in
    rw (sets-eq vs (w ++ drop k e) k long, take_at w (drop k e) k hw, ← drop-drop, drop_at w (drop k e) k hw, drop-drop, hj)

-- ---- the lowest bytes of a number

pub be_drop : (k w n : ℕ) → drop k (be (k + w) n) ≡ be w n
unfolding be
be_drop zero w n = rw zero-add
be_drop (suc k) w n = rw suc-add (be_drop k w n)

-- the lowest byte, and those before it
pub be_snoc : (w n : ℕ) → be (suc w) n ≡ be w (n / 256) ++ (n % 256 ∷ [])
unfolding be
be_snoc zero n = rw div-one
be_snoc (suc w) n =
    let first : n / 256 ^ suc w % 256 ≡ n / 256 / 256 ^ w % 256 = rw (pow-suc, mul_comm (256 ^ w) 256, ← div-div-eq-div-mul) in
    rw first (ap (λ (l : List ℕ). n / 256 / 256 ^ w % 256 ∷ l) (be_snoc w n))

-- the bytes of 16, 32 and 64 bits
pub two_bytes : (n : ℕ) → to_be_bytes w16 n ≡ be 2 n
unfolding be
two_bytes n = simp div-one

pub four_bytes : (n : ℕ) → to_be_bytes w32 n ≡ be 4 n
unfolding be
four_bytes n = simp div-one

eight_bytes : (n : ℕ) → to_be_bytes w64 n ≡ be 8 n
unfolding be
eight_bytes n = simp div-one

-- the last of eight bytes
pub last_bytes : (w n : ℕ) → w ≤ 8 → take (8 - (8 - w)) (drop (8 - w) (to_be_bytes w64 n)) ≡ be w n
last_bytes w n h =
    let all : 8 - w + w ≡ 8 = omega arith in
    let size : 8 - (8 - w) ≡ w = omega arith in
    ap (λ (l : List ℕ). take (8 - (8 - w)) (drop (8 - w) l)) (eight_bytes n ∙ ap (λ (k : ℕ). be k n) (sym all))
    ∙ ap (take (8 - (8 - w))) (be_drop (8 - w) w n)
    ∙ take_all (8 - (8 - w)) (be w n) (rw (length-be, size) (le_refl w))
