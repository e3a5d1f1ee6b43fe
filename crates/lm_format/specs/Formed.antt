-- The tests of a signature that need no hash (RFC 8554, 5.4.2, algorithm 6a, step 2).
use Rattle.std.specs.Prelude.{Bool, false, cond, List, ℕ, ◌+◌, ◌^◌, eqb, ltb, length}
use Rattle.words.specs.BigEndian.{number_at}
use Rattle.lm_digits.specs.declared.Parameters.{Parameters}
use Rattle.lm_format.specs.Format.{one_time_bytes, signature_length}

-- those for known types: length, types, leaf number
unfoldable pub formed : Parameters → ℕ → List ℕ → List ℕ → Bool
formed o h key signature =
    cond (eqb (length signature) (signature_length o h))  -- 2.d, 2.i
    (cond (eqb (number_at 4 signature 4) (number_at 4 key 4))  -- 2.c
    (cond (eqb (number_at 4 signature (8 + one_time_bytes o)) (number_at 4 key 0))  -- 2.g
    (ltb (number_at 4 signature 0) (2 ^ h))  -- 2.i
    false)
    false)
    false
