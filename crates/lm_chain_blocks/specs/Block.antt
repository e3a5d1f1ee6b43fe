-- The block of a step of a chain, in words. What it is stands in `step_block`; the three words after it say
-- how its words 5 to 13 are made of the value's, whose bytes begin one place before a word's edge.
use Rattle.std.specs.Prelude.{List, ◌++◌, ℕ, ◌+◌, ◌*◌, ◌/◌, ◌%◌}
use Rattle.words.specs.BigEndian.{be}
use Rattle.sha256.specs.declared.State.{State}
use Rattle.sha256.specs.Sha256.{parse, padding, bytes_of}
use Rattle.lm_hash.specs.declared.Leaf.{Leaf}
use Rattle.lm_hash.specs.Identifier.{identifier}

-- the words of step j of chain i: I, q, i, j and the value, 55 bytes in all, with their padding
unfoldable pub step_block : Leaf → ℕ → ℕ → State → List ℕ
step_block leaf i j t =
    parse 16 ((identifier leaf ++ be 4 leaf.q ++ be 2 i ++ (be 1 j ++ bytes_of t)) ++ padding 55)

-- word 5: i, j and the first byte of the value's first word
unfoldable pub first_word : ℕ → ℕ → ℕ → ℕ
first_word i j a = i % 65536 * 65536 + j % 256 * 256 + a / 16777216 % 256

-- words 6 to 12: the three low bytes of one word of the value, and the first byte of the next
unfoldable pub across_word : ℕ → ℕ → ℕ
across_word x y = x % 16777216 * 256 + y / 16777216 % 256

-- word 13: the three low bytes of the value's last word, and the padding's first byte
unfoldable pub last_word : ℕ → ℕ
last_word h = h % 16777216 * 256 + 128
