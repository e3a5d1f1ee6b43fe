-- Rotations as chains of shifts.
-- Assumes nothing.
use mathlib.Core.Path.{◌≡◌, sym, ap, ◌∙◌}
use Prim.Native.Nat.{ℕ, ◌+◌, ◌*◌, ◌/◌, ◌%◌, ◌^◌, ◌<◌}
use native.Mathlib.Nat.{mod-lt, div-le_self, lt_of_le_of_lt}
use lib.Dec.{lit<}
use lib.Bits.{bit_xor, xor_comm, xor_lt}
use Rattle.sha256.specs.Sha256.{rotr}
use Rattle.sha256_schedule.proofs.Bitwise.{xor_assoc, rotr_shifts}

shl_fits : (k x : ℕ) → x * 2 ^ k % 2 ^ 32 < 2 ^ 32
shl_fits k x = mod-lt (x * 2 ^ k) (lit< tt)

shr-fits : (n x : ℕ) → x < 2 ^ 32 → x / 2 ^ n < 2 ^ 32
shr-fits n x h = lt_of_le_of_lt (div-le_self x (2 ^ n)) h

module _ (x : ℕ) (fits : x < 2 ^ 32) where
  -- one more rotation, shift by shift
  pub and-rotr : (n k v : ℕ) → n + k ≡ 32 → v < 2 ^ 32
      → bit_xor (bit_xor v (x / 2 ^ n)) (x * 2 ^ k % 2 ^ 32) ≡ bit_xor v (rotr n x)
  and-rotr n k v e h =
      xor_assoc v (x / 2 ^ n) (x * 2 ^ k % 2 ^ 32) h (shr-fits n x fits) (shl_fits k x)
      ∙ ap (bit_xor v) (rotr_shifts n k x e fits)

  -- two rotations, the right shift of the first after that of the second
  pub crossed : (n k m i : ℕ) → n + k ≡ 32 → m + i ≡ 32
      → bit_xor (bit_xor (bit_xor (x * 2 ^ k % 2 ^ 32) (x / 2 ^ m)) (x / 2 ^ n)) (x * 2 ^ i % 2 ^ 32) ≡ bit_xor (rotr n x) (rotr m x)
  crossed n k m i e f =
      let a = x * 2 ^ k % 2 ^ 32 in
      let b = x / 2 ^ m in
      let c = x / 2 ^ n in
      let turned : bit_xor (bit_xor a b) c ≡ bit_xor (bit_xor c a) b =
      xor_comm (bit_xor a b) c ∙ sym (xor_assoc c a b (shr-fits n x fits) (shl_fits k x) (shr-fits m x fits)) in
      ap (λ (v : ℕ). bit_xor v (x * 2 ^ i % 2 ^ 32)) turned
      ∙ and-rotr m i (bit_xor c a) f (xor_lt 32 c a (shr-fits n x fits) (shl_fits k x))
      ∙ ap (λ (v : ℕ). bit_xor v (rotr m x)) (rotr_shifts n k x e fits)

  pub crossed-fits : (n k m i : ℕ)
      → bit_xor (bit_xor (bit_xor (x * 2 ^ k % 2 ^ 32) (x / 2 ^ m)) (x / 2 ^ n)) (x * 2 ^ i % 2 ^ 32) < 2 ^ 32
  crossed-fits n k m i =
      xor_lt 32 _ _ (xor_lt 32 _ _ (xor_lt 32 _ _ (shl_fits k x) (shr-fits m x fits)) (shr-fits n x fits)) (shl_fits i x)
