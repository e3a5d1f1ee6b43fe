-- The chains of a one-time signature (RFC 8554, 4.6, algorithm 4b, step 3).
use Rattle.std.specs.Prelude.{List, ◌++◌, ℕ, zero, suc}
use Rattle.words.specs.BigEndian.{be}
use Rattle.lm_hash.specs.Tagged.{tagged}

-- step j of chain i
unfoldable pub stepped : List ℕ → ℕ → ℕ → ℕ → List ℕ → List ℕ
stepped I q j i tmp = tagged I q i (be 1 j ++ tmp)

-- steps j, j + 1, .. of chain i, `count` of them: the inner loop of algorithm 4b, step 3
unfoldable pub chain : List ℕ → ℕ → ℕ → ℕ → ℕ → List ℕ → List ℕ
chain I q i zero j tmp = tmp
chain I q i (suc count) j tmp = chain I q i count (suc j) (stepped I q j i tmp)
