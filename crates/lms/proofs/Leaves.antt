-- The leaf of a good signature is one of its tree's, so that its number fits four bytes.
-- Assumes nothing.
use Rattle.std.specs.Prelude.{Option, Some, None}
use mathlib.Core.Path.{◌≡◌, refl}
use mathlib.Core.Bool.{true, false, false≢true}
use mathlib.Core.List.{List}
use Prim.Native.Nat.{ℕ, ◌^◌, ◌≤◌, ◌<◌}
use native.Mathlib.Nat.{lt_of_lt_of_le, le_trans}
use lib.Dec.{eqb, lit≤}
use lib.ListN.{length}
use lib.Pow.{pow_mono}
use Rattle.words.specs.BigEndian.{number_at}
use Rattle.refusal.proofs.Laws.{cond-true}
use Rattle.lm_digits.specs.declared.Parameters.{Parameters}
use Rattle.lm_digits.specs.Parameters.{one_time}
use Rattle.lm_format.specs.Format.{height, key_size}
use Rattle.lm_format.specs.Formed.{formed}
use Rattle.lm_format.specs.Leaf.{leaf_of, leaf_number}
use Rattle.lm_format.proofs.Forms.{height-le}
use Rattle.lm_format.proofs.Leaf.{leaf-fits}
use Rattle.lms.specs.Check.{verifies, typed, good}

module _ (key message signature : List ℕ) where
  typed-leaf : (o : Option Parameters) (t : Option ℕ) → ((h : ℕ) → t ≡ Some h → h ≤ 25)
      → typed false (λ o h. verifies o h key message signature) o t ≡ true
      → leaf_number (leaf_of key signature) < 256 ^ 4
  unfolding typed verifies
  typed-leaf None t high e = absurd (false≢true e)
  typed-leaf (Some o) None high e = absurd (false≢true e)
  typed-leaf (Some o) (Some h) high e =
      lt_of_lt_of_le (leaf-fits o h key signature (cond-true (formed o h key signature) _ e).0) (le_trans (pow_mono (high h refl)) (lit≤ tt))

  pub good-leaf : good key message signature ≡ true → leaf_number (leaf_of key signature) < 256 ^ 4
  unfolding good
  good-leaf e =
      typed-leaf (one_time (number_at 4 key 4)) (height (number_at 4 key 0)) (λ h d. height-le (number_at 4 key 0) d) (cond-true (eqb (length key) key_size) _ e).1
