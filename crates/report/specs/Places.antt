-- Places in a report, as the contracts of the code that writes it name them.
use Rattle.std.specs.Prelude.{ℕ}

-- where the rows begin, after number, where, fork index and named replicas
abbrev pub rows_place : ℕ
rows_place = 8

-- the bytes of a row: rule and term
abbrev pub row_size : ℕ
row_size = 5
