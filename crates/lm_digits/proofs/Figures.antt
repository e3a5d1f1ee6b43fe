-- Figures of the digits: a digit is below 2^w, the checksum fits two bytes and all digits stand in 34 bytes, the table follows
-- appendix B of RFC 8554, and RFC 8554's example of digits is computed.
-- Assumes nothing.
use mathlib.Core.Path.{◌≡◌, refl, ap}
use mathlib.Core.Bool.{Bool, true, false, cond}
use mathlib.Core.List.{List, [], ◌∷◌}
use Prim.Native.Nat.{ℕ, zero, suc, ◌+◌, ◌-◌, ◌*◌, ◌/◌, ◌^◌, ◌≤◌, ◌<◌}
use native.Mathlib.Nat.{le_trans, lt_of_lt_of_le, le_of_suc-le-suc, lt_of_not-le, suc-mul, mul_comm, mul_assoc, add-mul, mul-le-mul, mul-le-mul_left, mul-le-mul_right, mod-lt, div-add-mod', div-lt_iff_lt-mul}
use native.Mathlib.Omega.{arith}
use lib.Dec.{eqb, lit≤, lit<}
use lib.Pow.{pow_pos, pow_mono, shl_lt}
use Rattle.lm_digits.specs.declared.Parameters.{Parameters}
use Rattle.std.specs.Prelude.{Option, Some, None}
use Rattle.lm_digits.specs.Parameters.{row, one_time, message_digits, Follows}
use Rattle.lm_digits.specs.Digits.{coef, to_largest, sum, checksum}
use Rattle.lm_digits.proofs.Widths.{width-pos, pow-le, digit-inside, message-fits, message-few}

-- ---- digits and their sum

pub digit_lt : (w : ℕ) (s : List ℕ) (i : ℕ) → coef w s i < 2 ^ w
unfolding coef
digit_lt w s i = mod-lt _ (pow_pos w)

pub sum-le : (w : ℕ) (s : List ℕ) (i : ℕ) → sum w s i ≤ i * (2 ^ w - 1)
unfolding sum to_largest
sum-le w s zero = omega arith
sum-le w s (suc i) = let h = sum-le w s i in rw suc-mul (omega (arith, digit_lt w s i))

largest_le : (w : ℕ) → w * (8 / w) ≡ 8 → 2 ^ w - 1 ≤ 255
largest_le w whole = omega (arith, pow-le w whole)

pub sum_small : (w : ℕ) → w * (8 / w) ≡ 8 → (s : List ℕ) (i : ℕ) → sum w s i ≤ i * 255
sum_small w whole s i = le_trans (sum-le w s i) (mul-le-mul_left i (largest_le w whole))

-- ---- the checksum's digits

-- the largest sum is below 2^16, so its bits are at most 16
length-le : (w length : ℕ) → w * (8 / w) ≡ 8 → 2 ^ (length - 1) ≤ (2 ^ w - 1) * message_digits w → length ≤ 16
unfolding message_digits
length-le w length whole least =
    let most : (2 ^ w - 1) * (256 / w) ≤ 255 * 256 = mul-le-mul (largest_le w whole) (message-few w) in
    le_of_suc-le-suc (lt_of_not-le (λ (h : 17 ≤ length). omega (arith, pow_mono {i = 16} {j = length - 1} (omega arith))))

module _ (w length : ℕ) (whole : w * (8 / w) ≡ 8) where
  -- the next multiple of w is no less
  filled : length ≤ (length + (w - 1)) / w * w
  filled =
      let a = length + (w - 1) in
      omega (arith, div-add-mod' a w, mod-lt a (width-pos w whole))

  -- and at most 16, which w divides
  filled-le : length ≤ 16 → (length + (w - 1)) / w * w ≤ 16
  filled-le short =
      let each = 8 / w in
      let twice : (2 * each + 1) * w ≡ 16 + w =
      omega (arith, add-mul (2 * each) 1 w, mul_assoc 2 each w, mul_comm each w, whole) in
      let pos = width-pos w whole in
      let few : (length + (w - 1)) / w < 2 * each + 1 = (div-lt_iff_lt-mul pos).1 (omega arith) in
      omega (arith, mul-le-mul_right w few, suc-mul ((length + (w - 1)) / w) w)

module _ (o : Parameters) (whole : o.bits * (8 / o.bits) ≡ 8) (f : Follows o) where
  bits_fit : (f.checksum.length ≤ f.v * o.bits) × (f.v * o.bits ≤ 16)
  bits_fit =
      let w = o.bits in
      let n = f.checksum.length in
      let v : f.v * w ≡ (n + (w - 1)) / w * w = ap (λ (k : ℕ). k * w) f.checksum.digits in
      rw v (filled w n whole, filled-le w n whole (length-le w n whole f.checksum.least))

  pub checksum-fits : (s : List ℕ) → checksum o s < 65536
  unfolding checksum
  checksum-fits s =
      let w = o.bits in
      let n = f.checksum.length in
      let below : sum w s (message_digits w) < 2 ^ n =
      omega (arith, sum-le w s (message_digits w), mul_comm (message_digits w) (2 ^ w - 1), f.checksum.above) in
      let room : n + o.shift ≤ 16 = omega (arith, f.shift, bits_fit) in
      lt_of_lt_of_le (shl_lt n o.shift below) (pow_mono room)

  pub shift-lt : o.shift < 32
  shift-lt = omega (arith, f.shift)

  -- the digit of each chain stands in the 34 bytes of Q || Cksm(Q)
  pub chain-digit : (i : ℕ) → i < o.chains → i * o.bits / 8 < 34
  chain-digit =
      let w = o.bits in
      let fits : o.chains * w ≤ 8 * 34 =
      omega (arith, ap (λ (p : ℕ). p * w) f.chains, add-mul (message_digits w) f.v w, message-fits w whole, bits_fit) in
      digit-inside w whole o.chains 34 fits

-- ---- the table

-- chains and shift from a width and the bits of its largest sum
follows_from : (w length : ℕ) → suc ((2 ^ w - 1) * message_digits w) ≤ 2 ^ length
    → 2 ^ (length - 1) ≤ (2 ^ w - 1) * message_digits w
    → let v = (length + (w - 1)) / w in Follows (row w (message_digits w + v) (16 - v * w))
unfolding row
follows_from w length above least =
    record {
      v = (length + (w - 1)) / w;
      checksum = record { length = length; above = above; least = least; digits = refl };
      chains = refl;
      shift = refl;
    }

module _ (P : Parameters → Type 0) {o : Parameters} where
  arm : (t : Bool) {x : Parameters} {rest : Option Parameters} → P x → (rest ≡ Some o → P o)
      → cond t (Some x) rest ≡ Some o → P o
  arm true {x = x} p q e = let same : x ≡ o = cc in rw (← same) p
  arm false p q e = q e

  none : None ≡ Some o → P o
  none e = let z : ◌≡◌ {A = ℕ} 0 1 = cc in absurd (omega arith)

  -- what holds of each row holds of each type that the table knows
  pub each-known : (number : ℕ) {a b c d : Parameters} → P a → P b → P c → P d
      → cond (eqb number 1) (Some a)
      (cond (eqb number 2) (Some b) (cond (eqb number 3) (Some c) (cond (eqb number 4) (Some d) None)))
      ≡ Some o
      → P o
  each-known number a b c d =
      arm (eqb number 1) a (arm (eqb number 2) b (arm (eqb number 3) c (arm (eqb number 4) d none)))

pub known-follows : (number : ℕ) {o : Parameters} → one_time number ≡ Some o → Follows o
unfolding one_time row message_digits
known-follows number =
    each-known Follows number
    (follows_from 1 9 (lit≤ tt) (lit≤ tt))
    (follows_from 2 9 (lit≤ tt) (lit≤ tt))
    (follows_from 4 10 (lit≤ tt) (lit≤ tt))
    (follows_from 8 13 (lit≤ tt) (lit≤ tt))

pub known-width : (number : ℕ) {o : Parameters} → one_time number ≡ Some o → o.bits * (8 / o.bits) ≡ 8
unfolding one_time row
known-width number =
    each-known (λ p. p.bits * (8 / p.bits) ≡ 8) number refl refl refl refl

pub known-few : (number : ℕ) {o : Parameters} → one_time number ≡ Some o → o.chains ≤ 265
unfolding one_time row
known-few number = each-known (λ p. p.chains ≤ 265) number (lit≤ tt) (lit≤ tt) (lit≤ tt) (lit≤ tt)

-- the digits of Q fill its 32 bytes, and there are more chains than these
pub known-message : (number : ℕ) {o : Parameters} → one_time number ≡ Some o
    → (message_digits o.bits * o.bits ≡ 8 * 32) × (message_digits o.bits < o.chains)
unfolding one_time row message_digits
known-message number =
    each-known (λ p. (8 * 32 / p.bits * p.bits ≡ 8 * 32) × (8 * 32 / p.bits < p.chains)) number
    (refl, lit< tt) (refl, lit< tt) (refl, lit< tt) (refl, lit< tt)

-- ---- RFC 8554, 3.1.3: the digits of 0x1234

pub digit_1 : coef 1 (0x12 ∷ 0x34 ∷ []) 7 ≡ 0
unfolding coef
digit_1 = refl

pub digit_4 : coef 4 (0x12 ∷ 0x34 ∷ []) 0 ≡ 1
unfolding coef
digit_4 = refl
