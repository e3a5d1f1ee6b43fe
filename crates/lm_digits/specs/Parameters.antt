-- The parameters of the one-time types (document 01, "Digest and signature"; RFC 8554, 4.1, table 1), and the
-- claim that chains and shift follow from the digit width (RFC 8554, appendix B). n is 32 throughout.
use Rattle.std.specs.Prelude.{◌≡◌, cond, Option, Some, None, ℕ, suc, ◌+◌, ◌-◌, ◌*◌, ◌/◌, ◌^◌, ◌≤◌, eqb}
use Rattle.lm_digits.specs.declared.Parameters.{Parameters}

-- digit bits w, chains p, checksum shift ls
unfoldable pub row : ℕ → ℕ → ℕ → Parameters
row w p ls = record { bits = w; chains = p; shift = ls }

-- type 4: a digit a byte
abbrev pub byte_digits : Parameters
byte_digits = row 8 34 0

-- the table by type number
unfoldable pub one_time : ℕ → Option Parameters
one_time number =
    cond (eqb number 1) (Some (row 1 265 7))
    (cond (eqb number 2) (Some (row 2 133 6))
    (cond (eqb number 3) (Some (row 4 67 4)) (cond (eqb number 4) (Some byte_digits) None)))

-- ---- appendix B

-- u: the digits of 32 bytes
unfoldable pub message_digits : ℕ → ℕ
message_digits w = 8 * 32 / w

-- v: the digits that hold the checksum's bits, with its bits counted by the power of 2 above its largest
-- value
pub record ChecksumDigits (w v : ℕ) : Type 0 where
  pub length : ℕ
  pub above : suc ((2 ^ w - 1) * message_digits w) ≤ 2 ^ length
  pub least : 2 ^ (length - 1) ≤ (2 ^ w - 1) * message_digits w
  pub digits : v ≡ (length + (w - 1)) / w

-- p is u + v, and ls is 16 - v * w
pub record Follows (o : Parameters) : Type 0 where
  pub v : ℕ
  pub checksum : ChecksumDigits o.bits v
  pub chains : o.chains ≡ message_digits o.bits + v
  pub shift : o.shift ≡ 16 - v * o.bits
