-- Sizes that the code asks about.
use Rattle.std.specs.Prelude.{ℕ, ◌+◌}
use Rattle.words.specs.Widths.{width_most}
use Rattle.roster.specs.Roster.{name_size}

-- the most bytes of a vote's fields: with the widest terms
abbrev pub ballot_most : ℕ
ballot_most = 2 + width_most + width_most + 4 + 32

-- the most bytes of a statement: kind, cluster name, and a vote's fields
abbrev pub statement_most : ℕ
statement_most = 1 + name_size + ballot_most
