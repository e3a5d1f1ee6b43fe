-- The lowest charge of lists joined is the lower of their lowest, in whatever order the lists are taken: `sooner` is an order, and so `least`
-- is associative and commutative.
-- Assumes nothing.
use mathlib.Core.Path.{◌≡◌, refl, sym, ap, ◌∙◌}
use mathlib.Core.Bool.{true, false, cond}
use mathlib.Core.List.{List, [], ◌∷◌, ◌++◌, flat_map}
use mathlib.Core.Logic.{◌⊎◌, inl, inr}
use mathlib.Core.Option.{Option, some, none}
use Rattle.refusal.proofs.Laws.{look}
use Rattle.replica.specs.Charges.{Charge}
use Rattle.forensics.specs.Findings.{sooner, lower, lowest}
use Rattle.forensics.proofs.Order.{alike, not_both, not_itself, not-sooner_trans, sooner_trans}
use Rattle.forensics_charges.specs.Charges.{least}

-- ---- the lower of two

-- two charges of one rule and term
pub lower_twice : (c : Charge) → lower c (some c) ≡ c
unfolding lower
lower_twice c = rw (not_itself c)

lower_comm : (c d : Charge) → cond (sooner d c) d c ≡ cond (sooner c d) c d
lower_comm c d = go (look (sooner d c)) (look (sooner c d))
  where
    go : (sooner d c ≡ true) ⊎ (sooner d c ≡ false) → (sooner c d ≡ true) ⊎ (sooner c d ≡ false)
        → cond (sooner d c) d c ≡ cond (sooner c d) c d
    go (inl p) q = rw (p, not_both d c p)
    go (inr p) (inl q) = rw (p, q)
    go (inr p) (inr q) = rw (p, q) (alike c d q p)

lower_assoc : (c d e : Charge) → lower (lower c (some d)) (some e) ≡ lower c (some (lower d (some e)))
unfolding lower
lower_assoc c d e = go (look (sooner d c)) (look (sooner e d))
  where
    go : (sooner d c ≡ true) ⊎ (sooner d c ≡ false) → (sooner e d ≡ true) ⊎ (sooner e d ≡ false)
        → lower (lower c (some d)) (some e) ≡ lower c (some (lower d (some e)))
    go (inl p) (inl q) = rw (p, q, sooner_trans c d e q p)
    go (inl p) (inr q) = rw (p, q, p)
    go (inr p) (inl q) = rw (p, q)
    go (inr p) (inr q) = rw (p, q, p, not-sooner_trans c d e q p)

-- ---- of what there is

pub least-none : (x : Option Charge) → least x none ≡ x
unfolding least lower
least-none none = refl
least-none (some c) = refl

pub least_comm : (x y : Option Charge) → least x y ≡ least y x
unfolding least lower
least_comm none none = refl
least_comm none (some d) = refl
least_comm (some c) none = refl
least_comm (some c) (some d) = ap some (lower_comm c d)

pub least_assoc : (x y z : Option Charge) → least (least x y) z ≡ least x (least y z)
unfolding least lower
least_assoc none y z = refl
least_assoc (some c) none z = refl
least_assoc (some c) (some d) none = refl
least_assoc (some c) (some d) (some e) = ap some (lower_assoc c d e)

-- two and two, in another order
pub least_swap : (x y z w : Option Charge) → least (least x y) (least z w) ≡ least (least x z) (least y w)
least_swap x y z w =
    least_assoc x y (least z w) ∙ ap (least x) (sym (least_assoc y z w) ∙ ap (λ u. least u w) (least_comm y z) ∙ least_assoc z y w)
    ∙ sym (least_assoc x z (least y w))

-- ---- of lists joined

pub lowest-append : (xs ys : List Charge) → lowest (xs ++ ys) ≡ least (lowest xs) (lowest ys)
unfolding lowest least
lowest-append [] ys = refl
lowest-append (c ∷ xs) ys = ap (λ x. some (lower c x)) (lowest-append xs ys) ∙ sym (least_assoc (some c) (lowest xs) (lowest ys))

module _ {A : Type 0} where
  -- one list for each element of two lists
  pub lowest-over-append : (f : A → List Charge) (xs ys : List A)
      → lowest (flat_map f (xs ++ ys)) ≡ least (lowest (flat_map f xs)) (lowest (flat_map f ys))
  unfolding flat_map lowest least
  lowest-over-append f [] ys = refl
  lowest-over-append f (x ∷ xs) ys =
      lowest-append (f x) (flat_map f (xs ++ ys)) ∙ ap (least (lowest (f x))) (lowest-over-append f xs ys)
      ∙ sym (least_assoc (lowest (f x)) (lowest (flat_map f xs)) (lowest (flat_map f ys)))
      ∙ ap (λ z. least z (lowest (flat_map f ys))) (sym (lowest-append (f x) (flat_map f xs)))

  -- a list for each element that has the lower of what two others have
  pub lowest-split : (h f g : A → List Charge) → ((x : A) → lowest (h x) ≡ least (lowest (f x)) (lowest (g x)))
      → (xs : List A) → lowest (flat_map h xs) ≡ least (lowest (flat_map f xs)) (lowest (flat_map g xs))
  unfolding flat_map lowest least
  lowest-split h f g e [] = refl
  lowest-split h f g e (x ∷ xs) =
      lowest-append (h x) (flat_map h xs) ∙ ap (λ z. least z (lowest (flat_map h xs))) (e x)
      ∙ ap (least (least (lowest (f x)) (lowest (g x)))) (lowest-split h f g e xs)
      ∙ least_swap (lowest (f x)) (lowest (g x)) (lowest (flat_map f xs)) (lowest (flat_map g xs))
      ∙ ap (λ z. least z (least (lowest (g x)) (lowest (flat_map g xs)))) (sym (lowest-append (f x) (flat_map f xs)))
      ∙ ap (least (lowest (flat_map f (x ∷ xs)))) (sym (lowest-append (g x) (flat_map g xs)))

  -- two lists for each element
  pub lowest-both : (f g : A → List Charge) (xs : List A)
      → lowest (flat_map (λ x. f x ++ g x) xs) ≡ least (lowest (flat_map f xs)) (lowest (flat_map g xs))
  lowest-both f g xs = lowest-split (λ x. f x ++ g x) f g (λ x. lowest-append (f x) (g x)) xs
