-- Keys and signatures as bytes: the heights by type number (document 01, "Digest and signature"; RFC 8554,
-- 5.1, table 2), and the lengths (5.3, 5.4).
use Rattle.std.specs.Prelude.{cond, Option, Some, None, ℕ, ◌+◌, ◌*◌, eqb}
use Rattle.lm_digits.specs.declared.Parameters.{Parameters}

unfoldable pub height : ℕ → Option ℕ
height number =
    cond (eqb number 5) (Some 5)
    (cond (eqb number 6) (Some 10)
    (cond (eqb number 7) (Some 15)
    (cond (eqb number 8) (Some 20) (cond (eqb number 9) (Some 25) None))))

-- 5.3: the bytes of a key: two types, I, T[1]
abbrev pub key_size : ℕ
key_size = 56

-- bytes of a one-time signature after its type: C and y[0] to y[p-1]
unfoldable pub one_time_bytes : Parameters → ℕ
one_time_bytes o = 32 * (o.chains + 1)

-- where the path begins in a signature: after q and the one-time type, C and y, and the tree type
unfoldable pub path_at : Parameters → ℕ
path_at o = 8 + one_time_bytes o + 4

-- S: the bytes of a signature of a height
unfoldable pub signature_length : Parameters → ℕ → ℕ
signature_length o h = path_at o + 32 * h
