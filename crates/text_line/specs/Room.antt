-- The most bytes of each kind of line: its words, its numbers of at most ten digits, and the line feed.
use Rattle.std.specs.Prelude.{ℕ, ◌+◌}
use Rattle.text_decimal.specs.Put.{digits_most}

-- `refusal N in W`
abbrev pub refusal_room : ℕ
refusal_room = 8 + digits_most + 4 + digits_most + 1

-- `fork I`
abbrev pub fork_room : ℕ
fork_room = 5 + digits_most + 1

-- `board B rule R term T`
abbrev pub replica_room : ℕ
replica_room = 6 + digits_most + 6 + digits_most + 6 + digits_most + 1
