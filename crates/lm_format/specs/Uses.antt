-- What a leaf was used for (document 02, W5).
use Rattle.std.specs.Prelude.{Bool, false, not, cond, List, ℕ}
use Rattle.words.specs.BigEndian.{same}
use Rattle.lm_format.specs.Leaf.{Leaf, same_leaf}

-- a leaf, and the message that was signed with it
pub record Use : Type 0 where
  pub leaf : Leaf
  pub message : List ℕ

unfoldable pub use_of : Leaf → List ℕ → Use
use_of leaf message = record { leaf = leaf; message = message }

-- one leaf and different messages, which are compared as bytes
unfoldable pub reused : Use → Use → Bool
reused x y = cond (same_leaf x.leaf y.leaf) (not (same x.message y.message)) false
