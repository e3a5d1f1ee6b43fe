-- The leaf that a signature is made with, each for one message (document 02, W5; RFC 8554, 5.4): what tells
-- leaves apart stands here alone.
use Rattle.std.specs.Prelude.{Bool, List, ℕ, eqb}
use Rattle.words.specs.BigEndian.{number_at}

abbrev pub Leaf : Type 0
Leaf = ℕ

-- the bytes of its number
abbrev pub leaf_size : ℕ
leaf_size = 4

-- the leaf whose number stands at a place
abbrev pub leaf_at : List ℕ → ℕ → Leaf
leaf_at bytes at = number_at leaf_size bytes at

-- of a signature under a key: its first field, q
unfoldable pub leaf_of : List ℕ → List ℕ → Leaf
leaf_of key signature = leaf_at signature 0

unfoldable pub same_leaf : Leaf → Leaf → Bool
same_leaf p q = eqb p q

-- the leaf's number
unfoldable pub leaf_number : Leaf → ℕ
leaf_number q = q
