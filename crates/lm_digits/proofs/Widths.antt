-- The digit widths w that divide a byte, w * (8 / w) ≡ 8: how large they are, and where a digit stands.
-- Assumes nothing.
use mathlib.Core.Path.{◌≡◌, sym, ap, ◌∙◌}
use Prim.Native.Nat.{ℕ, zero, suc, ◌+◌, ◌*◌, ◌/◌, ◌%◌, ◌^◌, ◌≤◌, ◌<◌}
use native.Mathlib.Nat.{mul_comm, mul-suc, mul-le-mul_left, mul-lt-mul_of_pos_right, mod-lt, div-le_self, div-mul-le_self, mul-div-mul_right, div-lt_iff_lt-mul}
use native.Mathlib.Omega.{arith}
use lib.Dec.{lit<}
use lib.Pow.{pow_mono}
use Rattle.lm_digits.specs.Parameters.{message_digits}

factor_pos : (a b : ℕ) → a * b ≡ 8 → 0 < a
factor_pos zero b e = omega arith
factor_pos (suc a) b e = omega arith

-- Q has at most 256 digits
pub message-few : (w : ℕ) → message_digits w ≤ 256
unfolding message_digits
message-few w = div-le_self 256 w

module _ (w : ℕ) (whole : w * (8 / w) ≡ 8) where
  -- ---- sizes

  pub width-pos : 0 < w
  width-pos = factor_pos w (8 / w) whole

  pub each-pos : 0 < 8 / w
  each-pos = factor_pos (8 / w) w (mul_comm (8 / w) w ∙ whole)

  pub width-le : w ≤ 8
  width-le = omega (arith, whole, mul-le-mul_left w each-pos)

  pub pow-le : 2 ^ w ≤ 256
  pow-le = pow_mono width-le

  -- the code's 1 << w
  pub shifted_one : 1 * 2 ^ w % 4294967296 ≡ 2 ^ w
  shifted_one = let h = pow-le in omega arith

  -- ---- places

  -- a digit's bits stand in one byte
  pub digit-ends : (i : ℕ) → w * (i % (8 / w)) + w ≤ 8
  digit-ends i =
      let h : w * suc (i % (8 / w)) ≤ w * (8 / w) = mul-le-mul_left w (mod-lt i each-pos) in
      omega (arith, whole, mul-suc w (i % (8 / w)))

  -- which is this one
  pub digit-byte : (i : ℕ) → i * w / 8 ≡ i / (8 / w)
  digit-byte i =
      ap (λ (n : ℕ). i * w / n) (sym (mul_comm (8 / w) w ∙ whole))
      ∙ mul-div-mul_right i (8 / w) width-pos

  -- p digits that fit n bytes stand in them
  pub digit-inside : (p n : ℕ) → p * w ≤ 8 * n → (i : ℕ) → i < p → i * w / 8 < n
  digit-inside p n fits i h =
      let less : i * w < p * w = mul-lt-mul_of_pos_right h width-pos in
      (div-lt_iff_lt-mul (lit< tt)).1 (omega arith)

  pub message-fits : message_digits w * w ≤ 8 * 32
  unfolding message_digits
  message-fits = div-mul-le_self 256 w
