-- Bytes put into a buffer at a place, and the place after them.
use Rattle.std.specs.Prelude.{◌≡◌, List, ℕ, ◌+◌, ◌≤◌, length}
use Rattle.std.proofs.lemmas.List.Edits.{sets}

-- the most digits of a number of 4 bytes: 4,294,967,295 has ten
abbrev pub digits_most : ℕ
digits_most = 10

-- at most `room` bytes
pub record Put (entry exit : List ℕ) (at next : ℕ) (bytes : List ℕ) (room : ℕ) : Type 0 where
  pub stored : exit ≡ sets entry at bytes
  pub after : next ≡ at + length bytes
  pub few : length bytes ≤ room
