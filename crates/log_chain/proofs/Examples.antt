-- Worked examples of logs: records read from bytes, terms in order, ends, the distinct terms, the first difference.
-- Assumes nothing.
use mathlib.Core.Path.{◌≡◌, refl}
use mathlib.Core.Bool.{true, false}
use mathlib.Core.List.{List, [], ◌∷◌, ◌++◌}
use Prim.Native.Nat.{ℕ}
use lib.ListN.{replicate}
use Rattle.words.specs.BigEndian.{number, same}
use Rattle.log_chain.specs.Log.{Record, term_from, last_term}
use Rattle.log_chain.specs.Records.{record_size, records_of}
use Rattle.log_chain.specs.Runs.{run, runs_from, runs_after, runs}
use Rattle.log_chain.specs.Ends.{rising, staler}
use Rattle.log_chain.specs.Difference.{same_record, agree, differ_at}

-- a record of a term, with the first byte of its payload digest
of : ℕ → ℕ → Record
of t x = record { term = t; digest = x ∷ replicate 31 0 }

-- two records of 36 bytes, and one of 40 with a term of eight; no two fields have a byte in common
bytes : ℕ → List ℕ
bytes x = x ∷ replicate 31 9

read : (records_of 4 2 ((1 ∷ 2 ∷ 3 ∷ 4 ∷ []) ++ bytes 5 ++ (0 ∷ 0 ∷ 0 ∷ 6 ∷ []) ++ bytes 7 ++ (8 ∷ []))
    ≡ record { term = 0x01020304; digest = bytes 5 } ∷ record { term = 6; digest = bytes 7 } ∷ [])
    × (records_of 8 1 ((1 ∷ 2 ∷ 3 ∷ 4 ∷ 5 ∷ 6 ∷ 7 ∷ 8 ∷ []) ++ bytes 10) ≡ record { term = 0x0102030405060708; digest = bytes 10 } ∷ [])
unfolding records_of record_size bytes number
read = (refl, refl)

-- terms above 0 that do not fall
orders : (rising 1 (of 1 0 ∷ of 1 0 ∷ of 3 0 ∷ []) ≡ true) × (rising 1 (of 0 0 ∷ []) ≡ false) × (rising 1 (of 2 0 ∷ of 1 0 ∷ []) ≡ false)
    × (rising 1 [] ≡ true)
unfolding rising of
orders = (refl, refl, refl, refl)

-- term compared first, then index
ends : (staler 3 6 3 7 ≡ true) × (staler 3 7 3 7 ≡ false) × (staler 4 1 3 7 ≡ false) × (staler 2 9 3 1 ≡ true) × (staler 0 0 0 0 ≡ false)
unfolding staler
ends = (refl, refl, refl, refl, refl)

-- the distinct terms, with the log before and up to the last record of each
terms : (runs [] ≡ []) × (runs (of 1 0 ∷ of 1 1 ∷ of 3 2 ∷ [])
    ≡ run [] (of 1 0 ∷ of 1 1 ∷ []) ∷ run (of 1 0 ∷ of 1 1 ∷ []) (of 1 0 ∷ of 1 1 ∷ of 3 2 ∷ []) ∷ [])
unfolding runs runs_after runs_from run of last_term term_from
terms = (refl, refl)

-- records differ in term or payload digest; a log that is a beginning of the other does not differ
differences : (same_record (of 1 0) (of 1 0) ≡ true) × (same_record (of 1 0) (of 2 0) ≡ false) × (same_record (of 1 0) (of 1 1) ≡ false)
    × (agree (of 1 0 ∷ []) (of 1 0 ∷ of 1 1 ∷ []) ≡ true) × (agree (of 1 0 ∷ of 1 2 ∷ []) (of 1 0 ∷ of 1 1 ∷ []) ≡ false)
    × (differ_at 1 (of 1 0 ∷ of 1 2 ∷ []) (of 1 0 ∷ of 1 1 ∷ []) ≡ 2) × (differ_at 1 (of 1 0 ∷ []) (of 1 0 ∷ of 1 1 ∷ []) ≡ 0)
unfolding same_record agree differ_at same of
differences = (refl, refl, refl, refl, refl, refl, refl)
