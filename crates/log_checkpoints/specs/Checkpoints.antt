-- The pointers of a log at every 64th record, in one table of 32 bytes each.
use Rattle.std.specs.Prelude.{◌≡◌, List, [], ℕ, ◌+◌, ◌*◌, ◌/◌, ◌≤◌, take, drop}
use Rattle.log_chain.specs.Log.{with_terms, pointer}
use Rattle.log_chain.specs.Records.{records_of}

-- how many records stand from one to the next
abbrev pub spacing : ℕ
spacing = 64

-- the bytes of the table for so many records, pointer 0 among them
unfoldable pub table_size : ℕ → ℕ
table_size records = 32 * (records / spacing + 1)

-- what the table has for the first records of a log; a pointer has no cluster name in it
unfoldable pub Checkpoints : ℕ → ℕ → List ℕ → List ℕ → Type 0
Checkpoints w records s table =
    (m : ℕ) → spacing * m ≤ records
    → take 32 (drop (32 * m) table) ≡ pointer (with_terms w []) (records_of w (spacing * m) s)
