-- The checksum's lowest two bytes are stored after the bytes of Q.
use Prim.Native.Nat.{ℕ, ◌+◌, ◌/◌, ◌%◌}
use mathlib.Core.Path.{◌≡◌, refl, ap, ◌∙◌}
use mathlib.Core.List.{List, [], ◌∷◌, ◌++◌, append-nil}
use native.Mathlib.Omega.{arith}
use borrow.Author.Rules.{rules}
use lib.ListN.{length, length-append, drop_of_length-le}
use lib.Seq.{take-append_seam, sets, sets-eq}
use Rattle.words.specs.BigEndian.{be}
use Rattle.words.proofs.Laws.{length-be}
use Rattle.lm_digits.proofs.digits.join_checksum.Goals as goal

-- the two lowest bytes of a number
lowest-two : (n : ℕ) → be 2 (n % 65536) ≡ be 2 n
unfolding be
lowest-two n =
    let high : n % 65536 / 256 % 256 ≡ n / 256 % 256 = omega arith in
    let low : n % 65536 / 1 % 256 ≡ n / 1 % 256 = omega arith in
    rw (high, low)

-- two bytes in the place of the last two
last_two : (q z two : List ℕ) → length q ≡ 32 → length z ≡ 2 → length two ≡ 2 → sets (q ++ z) 32 two ≡ q ++ two
last_two q z two long last pair =
    let all : length (q ++ z) ≡ 34 = omega (arith, length-append q z) in
    sets-eq two (q ++ z) 32 (omega arith)
    ∙ rw (drop_of_length-le (q ++ z) {i = 32 + length two} (omega arith), append-nil, ← long, take-append_seam q z)

pub returns : goal.returns
returns c =
    let q = c.args.q in
    c.put_u16.ensures
    ∙ ap (λ (s : List ℕ). sets (s ++ (0 ∷ 0 ∷ [])) 32 (be 2 (c.args.checksum % 65536))) c.copy_from_slice.ensures.after
    ∙ ap (sets (q ++ (0 ∷ 0 ∷ [])) 32) (lowest-two c.args.checksum)
    ∙ last_two q _ _ (search rules) refl (length-be 2 c.args.checksum)
