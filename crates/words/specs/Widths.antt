-- The widest number that the code reads and writes.
use Rattle.std.specs.Prelude.{ℕ}

-- the bytes of 64 bits
abbrev pub width_most : ℕ
width_most = 8
