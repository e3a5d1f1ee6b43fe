-- The tests of algorithms 6 and 6a one after the other: the first that fails, or the last, gives the answer.
-- Assumes nothing.
use Rattle.std.specs.Prelude.{Some, None}
use mathlib.Core.Path.{◌≡◌}
use mathlib.Core.Bool.{true, false}
use mathlib.Core.List.{List}
use Prim.Native.Nat.{ℕ, ◌≤◌, ◌<◌}
use borrow.Author.Tests.{lt-ltb, le-ltb, eq-eqb, ne_eqb}
use lib.ListN.{length, drop}
use Rattle.words.specs.BigEndian.{number_at, same}
use Rattle.sha256.specs.Service.{limit, too_long}
use Rattle.lm_digits.specs.declared.Parameters.{Parameters}
use Rattle.lm_digits.specs.Parameters.{one_time}
use Rattle.lm_digits.specs.Digits.{steps}
use Rattle.lm_format.specs.Format.{height, key_size}
use Rattle.lm_format.specs.Formed.{formed}
use Rattle.lm_format.specs.Leaf.{leaf_of, leaf_number}
use Rattle.lm_answer.specs.declared.Answer.TheVariants.{Good, Bad, Long}
use Rattle.lm_answer.specs.declared.Answer.{Answer}
use Rattle.lms.specs.Check.{hash_of, root_of, verifies, steps_taken, typed, good, steps_of, verdict, answer}

-- ---- known types

module _ (o : Parameters) (h : ℕ) (key message sig : List ℕ) where
  pub unformed : formed o h key sig ≡ false → Bad 0 ≡ verdict (verifies o h key message sig) key sig (steps_taken o h key message sig)
  unfolding verdict verifies steps_taken
  unformed e = rw e

  -- the root decides, and the steps are those of all chains
  module _ (e : formed o h key sig ≡ true) {n : ℕ} (count : n ≡ steps o (hash_of key message sig)) where
    pub other-root : same (root_of o h key message sig) (drop 24 key) ≡ false
        → Bad n ≡ verdict (verifies o h key message sig) key sig (steps_taken o h key message sig)
    unfolding verdict verifies steps_taken
    other-root root = rw (e, root, count)

    pub same-root : same (root_of o h key message sig) (drop 24 key) ≡ true → {q : ℕ} → q ≡ leaf_number (leaf_of key sig)
        → Good q n ≡ verdict (verifies o h key message sig) key sig (steps_taken o h key message sig)
    unfolding verdict verifies steps_taken
    same-root root leaf = rw (e, root, leaf, count)

-- ---- any key

module _ (key message sig : List ℕ) where
  pub long-message : limit < length message → Long ≡ answer key message sig
  unfolding answer too_long
  long-message a = rw (lt-ltb _ _ a)

  module _ (short : length message ≤ limit) where
    pub wrong-key : (length key ≡ key_size → ⊥) → Bad 0 ≡ answer key message sig
    unfolding answer verdict too_long good steps_of
    wrong-key a = rw (le-ltb _ _ short, ne_eqb _ _ a)

    module _ (size : length key ≡ key_size) where
      pub no-one-time : one_time (number_at 4 key 4) ≡ None → Bad 0 ≡ answer key message sig
      unfolding answer verdict too_long good steps_of typed
      no-one-time a = rw (le-ltb _ _ short, eq-eqb _ _ size, a)

      module _ (o : Parameters) (known : one_time (number_at 4 key 4) ≡ Some o) where
        pub no-height : height (number_at 4 key 0) ≡ None → Bad 0 ≡ answer key message sig
        unfolding answer verdict too_long good steps_of typed
        no-height a = rw (le-ltb _ _ short, eq-eqb _ _ size, known, a)

        module _ (h : ℕ) (levels : height (number_at 4 key 0) ≡ Some h) where
          pub by-types : {r : Answer} → r ≡ verdict (verifies o h key message sig) key sig (steps_taken o h key message sig)
              → r ≡ answer key message sig
          unfolding answer too_long good steps_of typed
          by-types a = rw (le-ltb _ _ short, eq-eqb _ _ size, known, levels) a
