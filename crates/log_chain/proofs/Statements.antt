-- Bytes written one part after the other to the start of a buffer: each part begins where the one before ends, and later bytes are kept.
-- Assumes nothing.
use mathlib.Core.Path.{◌≡◌, refl, sym}
use mathlib.Core.List.{List, [], ◌∷◌, ◌++◌}
use Prim.Native.Nat.{ℕ, ◌+◌, ◌≤◌}
use native.Mathlib.Omega.{arith}
use lib.ListN.{length, take, set, length-append}
use lib.Seq.{sets}
use Rattle.words.specs.Over.{over}
use Rattle.words.proofs.Laws.{sets_next}
use Rattle.words.proofs.Over.{over_at, over-taken}

-- two parts
pub two_parts : (e a b : List ℕ) (k j : ℕ) → length a ≡ k → k + length b ≡ j → j ≤ length e → take j (sets (sets e 0 a) k b) ≡ a ++ b
two_parts e a b k j ha hj h =
    let size : length (a ++ b) ≡ j = rw length-append (omega arith) in
    rw (sets_next [] e a 0 k refl (omega arith) (omega arith), sets_next a e b k j ha hj h, over_at (a ++ b) e j size)
    (over-taken (a ++ b) e j (sym size))

-- a byte and two parts
pub vote-parts : (e name fields : List ℕ) (kind k : ℕ) → 1 + length name ≡ k → k + length fields ≤ length e
    → sets (sets (set e 0 kind) 1 name) k fields ≡ over (kind ∷ name ++ fields) e
vote-parts e name fields kind k hn he =
    rw (
      sets_next [] e (kind ∷ []) 0 1 refl refl (omega arith),
      sets_next (kind ∷ []) e name 1 k refl hn (omega arith),
      sets_next (kind ∷ name) e fields k (k + length fields) (omega arith) refl he,
    )
    (over_at (kind ∷ name ++ fields) e (k + length fields) (rw length-append (omega arith)))

-- a byte and four parts
pub place-parts : (e name t i p : List ℕ) (kind k w : ℕ) → 1 + length name ≡ k → length t ≡ w → length i ≡ 4 → length p ≡ 32
    → k + w + 4 + 32 ≤ length e
    → sets (sets (sets (sets (set e 0 kind) 1 name) k t) (k + w) i) (k + w + 4) p ≡ over (kind ∷ name ++ t ++ i ++ p) e
place-parts e name t i p kind k w hn ht hi hp he =
    rw (
      sets_next [] e (kind ∷ []) 0 1 refl refl (omega arith),
      sets_next (kind ∷ []) e name 1 k refl hn (omega arith),
      sets_next (kind ∷ name) e t k (k + w) (omega arith) (omega arith) (omega arith),
      sets_next (kind ∷ name ++ t) e i (k + w) (k + w + 4) (rw length-append (omega arith)) (omega arith) (omega arith),
      sets_next (kind ∷ name ++ t ++ i) e p (k + w + 4) (k + w + 4 + 32) (rw (length-append, length-append) (omega arith)) (omega arith) he,
    )
    (over_at (kind ∷ name ++ t ++ i ++ p) e (k + w + 4 + 32) (rw (length-append, length-append, length-append) (omega arith)))
