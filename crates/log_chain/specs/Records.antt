-- The records of a log in bytes (document 01, "A submission, read from its trailer", part 1), over the term's
-- width w.
use Rattle.std.specs.Prelude.{List, [], ◌∷◌, ℕ, zero, suc, ◌+◌, take, drop}
use Rattle.words.specs.BigEndian.{number}
use Rattle.log_chain.specs.Log.{Record}

-- a record: term and payload digest
unfoldable pub record_size : ℕ → ℕ
record_size w = w + 32

unfoldable pub records_of : ℕ → ℕ → List ℕ → List Record
records_of w zero bytes = []
records_of w (suc count) bytes =
    record { term = number (take w bytes); digest = take 32 (drop w bytes) }
    ∷ records_of w count (drop (record_size w) bytes)
