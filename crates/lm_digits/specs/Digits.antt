-- Digits of a byte string, their checksum and the steps of all chains, over the digit width w (RFC 8554,
-- 3.1.3, 4.4 and 4.6).
use Rattle.std.specs.Prelude.{List, ◌++◌, ℕ, zero, suc, ◌+◌, ◌-◌, ◌*◌, ◌/◌, ◌%◌, ◌^◌, get_or}
use Rattle.words.specs.BigEndian.{be}
use Rattle.lm_digits.specs.declared.Parameters.{Parameters}
use Rattle.lm_digits.specs.Parameters.{message_digits}

-- 3.1.3: coef(S, i, w); the AND with 2^w - 1 is the rest modulo 2^w
unfoldable pub coef : ℕ → List ℕ → ℕ → ℕ
coef w s i = get_or s (i * w / 8) 0 / 2 ^ (8 - (w * (i % (8 / w)) + w)) % 2 ^ w

-- 4.4, algorithm 2, and 4.6, algorithm 4b, step 3: how far digit i is from the largest, which is also how
-- many steps chain i takes
unfoldable pub to_largest : ℕ → List ℕ → ℕ → ℕ
to_largest w s i = 2 ^ w - 1 - coef w s i

-- 4.4, algorithm 2: the sum over the first i digits
unfoldable pub sum : ℕ → List ℕ → ℕ → ℕ
sum w s zero = 0
sum w s (suc i) = sum w s i + to_largest w s i

-- 4.4, algorithm 2: Cksm(S)
unfoldable pub checksum : Parameters → List ℕ → ℕ
checksum o s = sum o.bits s (message_digits o.bits) * 2 ^ o.shift

-- 4.6, algorithm 4b, step 3: Q || Cksm(Q)
unfoldable pub with_checksum : Parameters → List ℕ → List ℕ
with_checksum o q = q ++ be 2 (checksum o q)

-- 4.6, algorithm 4b, step 3: the steps of all chains for Q (document 02, W7)
unfoldable pub steps : Parameters → List ℕ → ℕ
steps o q = sum o.bits (with_checksum o q) o.chains
