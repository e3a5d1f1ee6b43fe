-- The submissions one after the other: one more is one more number, and one more entry if it is accepted.
-- Assumes nothing.
use mathlib.Core.Path.{◌≡◌, refl, ap, ◌∙◌}
use mathlib.Core.Bool.{true, cond}
use mathlib.Core.List.{List, [], ◌∷◌, ◌++◌, flat_map}
use mathlib.Core.Logic.{⊎_elim}
use Prim.Native.Nat.{ℕ, suc, ◌+◌}
use native.Mathlib.Omega.{arith}
use lib.Dec.{eqb}
use lib.ListN.{length}
use Rattle.words.specs.BigEndian.{be}
use Rattle.refusal.proofs.Laws.{look}
use Rattle.submission.specs.Validate.{validate}
use Rattle.district.specs.District.{Entry, entry, accepted_from, number_bytes}

module _ (roster : List ℕ) where
  pub numbers-length : (ss : List (List ℕ)) → length (number_bytes roster ss) ≡ length ss
  unfolding number_bytes flat_map be
  numbers-length [] = refl
  numbers-length (s ∷ ss) = ap suc (numbers-length ss)

  pub numbers-next : (ss : List (List ℕ)) (s : List ℕ) → number_bytes roster (ss ++ (s ∷ [])) ≡ number_bytes roster ss ++ be 1 (validate roster s)
  unfolding number_bytes flat_map be
  numbers-next [] s = refl
  numbers-next (t ∷ ss) s = ap (λ z. be 1 (validate roster t) ++ z) (numbers-next ss s)

  -- the entry of a submission at a position, if it is accepted
  unfoldable pub entered : ℕ → List ℕ → List Entry
  entered position s = cond (eqb (validate roster s) 0) (entry position s ∷ []) []

  pub accepted-next : (ss : List (List ℕ)) (i : ℕ) (s : List ℕ) → accepted_from roster i (ss ++ (s ∷ [])) ≡ accepted_from roster i ss ++ entered (i + length ss) s
  unfolding accepted_from entered
  accepted-next [] i s = let place : i + 0 ≡ i = omega arith in rw place
  accepted-next (t ∷ ss) i s =
      let more = accepted-next ss (suc i) s in
      let place : suc i + length ss ≡ i + suc (length ss) = omega arith in
      ⊎_elim
      (λ (e : eqb (validate roster t) 0 ≡ true). rw e (ap (λ z. entry i t ∷ z) (more ∙ ap (λ k. accepted_from roster (suc i) ss ++ entered k s) place)))
      (λ e. rw e (more ∙ ap (λ k. accepted_from roster (suc i) ss ++ entered k s) place))
      (look (eqb (validate roster t) 0))
