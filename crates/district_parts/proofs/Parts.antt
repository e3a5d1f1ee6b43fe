-- The parts one after the other: where each begins, and that it stands inside a buffer to which the lengths add up.
-- Assumes nothing.
use mathlib.Core.Path.{◌≡◌, refl, ap, ◌∙◌}
use mathlib.Core.Bool.{true}
use mathlib.Core.List.{List, [], ◌∷◌, ◌++◌, sum}
use Prim.Native.Nat.{ℕ, zero, suc, ◌+◌, ◌≤◌, ◌<◌}
use native.Mathlib.Omega.{arith}
use borrow.Author.Tests.{leb-true}
use lib.ListN.{length, take, drop, get_or}
use lib.Seq.{drop-drop}
use Rattle.refusal.proofs.Laws.{all_cons}
use Rattle.district_parts.specs.Parts.{parts, count_most, counted, total}

pub parts-length : (sizes buffer : List ℕ) → length (parts sizes buffer) ≡ length sizes
unfolding parts
parts-length [] buffer = refl
parts-length (k ∷ sizes) buffer = ap suc (parts-length sizes (drop k buffer))

-- the sum of one more
pub sum_next : (sizes : List ℕ) (i : ℕ) → i < length sizes → total (take (suc i) sizes) ≡ total (take i sizes) + get_or sizes i 0
unfolding total sum
sum_next [] i h = absurd (omega arith)
sum_next (k ∷ sizes) zero h = omega arith
sum_next (k ∷ sizes) (suc i) h = omega (arith, sum_next sizes i (omega arith))

pub sum-some : (sizes : List ℕ) (i : ℕ) → total (take i sizes) ≤ total sizes
unfolding total sum
sum-some [] zero = omega arith
sum-some [] (suc i) = omega arith
sum-some (k ∷ sizes) zero = omega arith
sum-some (k ∷ sizes) (suc i) = omega (arith, sum-some sizes i)

-- the next part begins where the lengths before it end
pub part_next : (sizes buffer : List ℕ) (i : ℕ) → i < length sizes
    → take (suc i) (parts sizes buffer) ≡ take i (parts sizes buffer) ++ (take (get_or sizes i 0) (drop (total (take i sizes)) buffer) ∷ [])
unfolding parts total sum
part_next [] buffer i h = absurd (omega arith)
part_next (k ∷ sizes) buffer zero h = refl
part_next (k ∷ sizes) buffer (suc i) h =
    ap (λ z. take k buffer ∷ z)
    (part_next sizes (drop k buffer) i (omega arith)
    ∙ ap (λ z. take i (parts sizes (drop k buffer)) ++ (take (get_or sizes i 0) z ∷ [])) (drop-drop (total (take i sizes)) k buffer))

-- 17: no more than nine
pub counted-most : (sizes : List ℕ) → counted sizes ≡ true → length sizes ≤ count_most
unfolding counted
counted-most sizes e = leb-true _ count_most (all_cons _ _ (all_cons _ _ e).1).0
