-- Uses of leaves as a buffer holds them, one entry after the other: the leaf's number, the length of its
-- message, and the message with zeros after it (document 02, W5).
use Rattle.std.specs.Prelude.{Bool, true, false, cond, List, [], ◌∷◌, ◌++◌, ℕ}
use Rattle.std.specs.Prelude.{zero, suc, ◌+◌, ◌-◌, ◌*◌, length, take, drop, replicate}
use Rattle.lm_format.specs.Leaf.{leaf_size, leaf_at}
use Rattle.lm_format.specs.Uses.{Use, use_of, reused}
use Rattle.submission.specs.Sizes.{statement_most}

-- the bytes of an entry
abbrev pub entry_size : ℕ
entry_size = leaf_size + (1 + statement_most)

-- a message in its entry; different messages are different there too
unfoldable pub padded : List ℕ → List ℕ
padded message = length message ∷ message ++ replicate (statement_most - length message) 0

unfoldable pub padded_use : Use → Use
padded_use u = use_of u.leaf (padded u.message)

-- the use that an entry is, with its message padded
unfoldable pub entry_use : List ℕ → Use
entry_use entry = use_of (leaf_at entry 0) (drop leaf_size entry)

-- those of the first n entries
unfoldable pub entry_uses : ℕ → List ℕ → List Use
entry_uses zero buffer = []
entry_uses (suc n) buffer = entry_use (take entry_size buffer) ∷ entry_uses n (drop entry_size buffer)

-- that of entry i, from 0
unfoldable pub entry_use_at : ℕ → List ℕ → Use
entry_use_at i buffer = entry_use (take entry_size (drop (entry_size * i) buffer))

-- one of some uses has the leaf of another use, and a different message
unfoldable pub reused_in : Use → List Use → Bool
reused_in x [] = false
reused_in x (y ∷ ys) = cond (reused x y) true (reused_in x ys)
