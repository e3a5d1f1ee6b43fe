-- The values of all chains side by side, eight words each.
use mathlib.Core.List.{List, flat_map}
use Rattle.std.specs.Prelude.{ℕ, ◌*◌, take, drop}
use Rattle.words.specs.BigEndian.{be}
use Rattle.lm_digits.specs.Listed.{chains_most}

-- the words of the values of all chains, where there are as many as can be
abbrev pub values_words : ℕ
values_words = 8 * chains_most

-- the value of chain k
unfoldable pub value_at : List ℕ → ℕ → List ℕ
value_at v k = flat_map (be 4) (take 8 (drop (8 * k) v))
