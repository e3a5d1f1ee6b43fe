-- Whether a check comes to the chains, on either side: a signature of the right form, and each thing that can be wrong with it.
-- Assumes nothing.
use mathlib.Core.Path.{◌≡◌, refl}
use mathlib.Core.Bool.{true, false}
use mathlib.Core.List.{List, [], ◌∷◌, ◌++◌}
use Prim.Native.Nat.{ℕ, ◌<◌}
use borrow.Author.Tests.{lt-ltb}
use lib.ListN.{length, replicate}
use Rattle.words.specs.BigEndian.{be, number, number_at}
use Rattle.sha256.specs.Service.{limit, too_long}
use Rattle.lm_digits.specs.Parameters.{row, one_time}
use Rattle.lm_format.specs.Format.{height, one_time_bytes, path_at, signature_length}
use Rattle.lm_format.specs.Formed.{formed}
use Rattle.lms.specs.Check.{typed}
use Rattle.lms.specs.Steps.{reached}

-- a key, and a signature, by their types and the leaf number
unfoldable key_of : ℕ → ℕ → List ℕ
key_of tree ots = be 4 tree ++ be 4 ots ++ replicate 48 7

unfoldable signature_of : ℕ → ℕ → ℕ → List ℕ
signature_of q ots tree = be 4 q ++ be 4 ots ++ replicate 1120 9 ++ be 4 tree ++ replicate 160 9

-- height 5 and 8-bit digits: 32 leaves, and 1,292 bytes
last_leaf : reached (key_of 5 4) [] (signature_of 31 4 5) ≡ true
unfolding reached too_long typed one_time height formed signature_length path_at one_time_bytes row key_of signature_of number_at number be
last_leaf = refl

wrong_forms : (reached (key_of 5 4) [] (signature_of 32 4 5) ≡ false) × (reached (key_of 5 4) [] (signature_of 31 3 5) ≡ false)
    × (reached (key_of 5 4) [] (signature_of 31 4 6) ≡ false) × (reached (key_of 5 4) [] (signature_of 31 4 5 ++ (9 ∷ [])) ≡ false)
    × (reached (key_of 5 4 ++ (7 ∷ [])) [] (signature_of 31 4 5) ≡ false) × (reached (key_of 5 5) [] (signature_of 31 5 5) ≡ false)
    × (reached (key_of 4 4) [] (signature_of 31 4 4) ≡ false)
unfolding reached too_long typed one_time height formed signature_length path_at one_time_bytes row key_of signature_of number_at number be
wrong_forms = (refl, refl, refl, refl, refl, refl, refl)

long_unreached : (key message signature : List ℕ) → limit < length message → reached key message signature ≡ false
unfolding reached too_long
long_unreached key message signature h = rw (lt-ltb _ _ h)
