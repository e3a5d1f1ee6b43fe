-- What the code above asks of parameters.
use Rattle.std.specs.Prelude.{◌≡◌, Some, ℕ, ◌+◌}
use Rattle.lm_digits.specs.declared.Parameters.{Parameters}
use Rattle.lm_digits.specs.Parameters.{one_time}

-- o is a row of the table
pub record Listed (o : Parameters) : Type 0 where
  pub number : ℕ
  pub found : one_time number ≡ Some o

-- the most chains of a row: those of type 1 (RFC 8554, 4.1, table 1)
abbrev pub chains_most : ℕ
chains_most = 265

-- the bytes of Q || Cksm(Q) (RFC 8554, 4.4)
abbrev pub checked_size : ℕ
checked_size = 32 + 2
