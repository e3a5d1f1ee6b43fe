-- The trailer (document 01, "A submission, read from its trailer", part 5): the last 44 bytes.
use Rattle.std.specs.Prelude.{List, ℕ, ◌+◌, ◌-◌, ◌*◌, length, take, drop}
use Rattle.words.specs.BigEndian.{number_at}
use Rattle.roster.specs.Roster.{name_size}

abbrev pub trailer_size : ℕ
trailer_size = 44

module _ (s : List ℕ) where
  -- the trailer's first byte, from which the distances count back
  abbrev pub trailer_at : ℕ
  trailer_at = length s - trailer_size

  unfoldable pub name : List ℕ
  name = take name_size (drop trailer_at s)

  -- the numbers after the name, from 0
  unfoldable pub word : ℕ → ℕ
  word i = number_at 4 s (trailer_at + name_size + 4 * i)

  -- H
  unfoldable pub record_count : ℕ
  record_count = word 0

  -- L
  unfoldable pub leader_count : ℕ
  leader_count = word 1

  -- the distance back to part 1, 2, 3 or 4
  unfoldable pub distance : ℕ → ℕ
  distance part = word (1 + part)

  unfoldable pub version : ℕ
  version = word 6
