-- What a writer leaves of a buffer that it was lent.
use Rattle.std.specs.Prelude.{List, ◌++◌, ℕ, length, drop}

-- bytes at the start of a buffer; later ones are kept
unfoldable pub over : List ℕ → List ℕ → List ℕ
over bytes out = bytes ++ drop (length bytes) out
