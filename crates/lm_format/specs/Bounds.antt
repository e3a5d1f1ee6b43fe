-- What the code above asks of heights, and of one-time signatures.
use Rattle.std.specs.Prelude.{ℕ, ◌+◌, ◌*◌}
use Rattle.lm_digits.specs.Listed.{chains_most}

-- the most levels of a tree: those of type 9 (RFC 8554, 5.1, table 2)
abbrev pub height_most : ℕ
height_most = 25

-- the most bytes of a one-time signature after its type: those of type 1
abbrev pub one_time_most : ℕ
one_time_most = 32 * (chains_most + 1)
