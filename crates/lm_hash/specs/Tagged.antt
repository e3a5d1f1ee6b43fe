-- The form of every hash of RFC 8554. u32str, u16str and u8str (3.1) are `be 4`, `be 2` and `be 1`; H is
-- SHA-256.
use Rattle.std.specs.Prelude.{List, ◌++◌, ℕ}
use Rattle.words.specs.BigEndian.{be}
use Rattle.sha256.specs.Sha256.{sha256}

-- H(I || u32str(q) || u16str(d) || rest), for the identifier I of a key, a leaf or node q, and a chain or use
-- d
unfoldable pub tagged : List ℕ → ℕ → ℕ → List ℕ → List ℕ
tagged I q d rest = sha256 (I ++ be 4 q ++ be 2 d ++ rest)
