-- The members of lists joined, one list for each element: each stands in the list of some element. The members of a list chosen by a test, and
-- the one at a place.
-- Assumes nothing.
use mathlib.Core.Path.{◌≡◌, refl}
use mathlib.Core.List.{List, [], ◌∷◌, flat_map, Memᴰ}
use mathlib.Core.Bool.{Bool, true, false, cond}
use mathlib.Core.Logic.{◌⊎◌, inl, inr, ⊎_elim}
use Prim.Native.Nat.{ℕ, zero, suc, ◌<◌}
use native.Mathlib.Omega.{arith}
use lib.ListN.{length, get_or}

-- ---- lists joined

module _ {A B : Type 0} (f : A → List B) where
  pub joined-mem : (xs : List A) (y : B) → Memᴰ y (flat_map f xs) → (x : A) × Memᴰ x xs × Memᴰ y (f x)
  unfolding flat_map
  joined-mem [] y m = absurd (mathlib.Core.List.Memᴰ.not-nil m)
  joined-mem (z ∷ zs) y m =
      ⊎_elim
      (λ (h : Memᴰ y (f z)). (z, mathlib.Core.List.Memᴰ.head refl, h))
      (λ (h : Memᴰ y (flat_map f zs)). let r = joined-mem zs y h in (r.0, mathlib.Core.List.Memᴰ.tail r.1, r.2))
      (mathlib.Core.List.Memᴰ.append_cases (f z) m)

  pub joined-empty : (xs : List A) → ((x : A) → Memᴰ x xs → f x ≡ []) → flat_map f xs ≡ []
  unfolding flat_map
  joined-empty [] h = refl
  joined-empty (z ∷ zs) h = rw (h z (mathlib.Core.List.Memᴰ.head refl)) (joined-empty zs (λ x m. h x (mathlib.Core.List.Memᴰ.tail m)))

-- ---- a list chosen by a test

pub mem-cond : {A : Type 0} (b : Bool) (xs ys : List A) (x : A) → Memᴰ x (cond b xs ys)
    → ((b ≡ true) × Memᴰ x xs) ⊎ ((b ≡ false) × Memᴰ x ys)
mem-cond true xs ys x m = inl (refl, m)
mem-cond false xs ys x m = inr (refl, m)

-- ---- the member at a place

pub mem_at : {A : Type 0} (l : List A) (i : ℕ) (d : A) → i < length l → Memᴰ (get_or l i d) l
mem_at [] i d h = absurd (omega arith)
mem_at (x ∷ l) zero d h = mathlib.Core.List.Memᴰ.head refl
mem_at (x ∷ l) (suc i) d h = mathlib.Core.List.Memᴰ.tail (mem_at l i d (omega arith))
