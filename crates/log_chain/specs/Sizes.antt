-- Sizes over the term's width w that the code asks for (document 01, "Chain and statements").
use Rattle.std.specs.Prelude.{List, ◌∷◌, ◌++◌, ℕ, ◌+◌}
use Rattle.words.specs.BigEndian.{be}
use Rattle.words.specs.Widths.{width_most}

-- the most bytes of a record: the widest term, and the payload digest
abbrev pub record_size_most : ℕ
record_size_most = width_most + 32

-- the bytes of a stamp and a receipt, as the code holds the fields: kind, cluster name, term, index, pointer
abbrev pub place_statement : ℕ → List ℕ → ℕ → ℕ → ℕ → List ℕ → List ℕ
place_statement kind name w term index pointer = kind ∷ name ++ be w term ++ be 4 index ++ pointer

-- how many they are, for a name of n bytes
abbrev pub place_size : ℕ → ℕ → ℕ
place_size n w = 1 + n + w + 4 + 32
