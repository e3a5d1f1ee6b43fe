-- The row of rule 5, one use after the other: a use is charged once, however many others have its leaf.
-- Assumes nothing.
use mathlib.Core.Path.{◌≡◌, refl, sym, ap, ◌∙◌}
use mathlib.Core.Bool.{Bool, true, false}
use mathlib.Core.List.{List, [], ◌∷◌, ◌++◌, map, flat_map}
use mathlib.Core.Logic.{⊎_elim}
use mathlib.Core.Option.{Option, some}
use Prim.Native.Nat.{ℕ, ◌+◌, ◌-◌, ◌*◌, ◌≤◌, ◌<◌}
use native.Mathlib.Omega.{arith}
use lib.ListN.{drop}
use Rattle.refusal.proofs.Laws.{look}
use Rattle.lm_format.specs.Leaf.{leaf_number}
use Rattle.lm_format.specs.Uses.{Use, use_of, reused}
use Rattle.replica.specs.Charges.{Charge, charge, leaf_clash}
use Rattle.forensics.specs.Findings.{leaf_charges, lower, lowest}
use Rattle.submission_leaves.specs.Entries.{entry_size, padded_use, entry_uses, entry_use_at, reused_in}
use Rattle.submission_leaves.proofs.Entries.{left_first, reused-padded}
use Rattle.forensics_charges.specs.Charges.{least}
use Rattle.forensics_charges.proofs.Lowest.{least-none, least_assoc, lowest-append, lower_twice}

-- ---- one use

again : (rule term : ℕ) (b : Bool) → lowest (charge true rule term ++ charge b rule term) ≡ lowest (charge true rule term)
unfolding charge lowest lower
again rule term true = ap some (lower_twice (record { rule = rule; term = term }))
again rule term false = refl

module _ (x : Use) where
  one-use : (us : List Use) → lowest (flat_map (leaf_clash x) us) ≡ lowest (charge (reused_in x us) 5 (leaf_number x.leaf))
  unfolding flat_map reused_in leaf_clash charge
  one-use [] = refl
  one-use (y ∷ ys) =
      ⊎_elim
      (λ (e : reused x y ≡ true). rw e (joined e ys (one-use ys)))
      (λ (e : reused x y ≡ false). rw e (one-use ys))
      (look (reused x y))
    where
      joined : reused x y ≡ true → (ys : List Use) → lowest (flat_map (leaf_clash x) ys) ≡ lowest (charge (reused_in x ys) 5 (leaf_number x.leaf))
          → lowest (charge true 5 (leaf_number x.leaf) ++ flat_map (leaf_clash x) ys) ≡ lowest (charge true 5 (leaf_number x.leaf))
      joined e ys h =
          lowest-append (charge true 5 (leaf_number x.leaf)) (flat_map (leaf_clash x) ys)
          ∙ ap (least (lowest (charge true 5 (leaf_number x.leaf)))) h
          ∙ sym (lowest-append (charge true 5 (leaf_number x.leaf)) (charge (reused_in x ys) 5 (leaf_number x.leaf)))
          ∙ again 5 (leaf_number x.leaf) (reused_in x ys)

-- ---- the uses that are left

module _ (b : List ℕ) (n : ℕ) where
  abbrev charged : Use → List Charge
  charged x = flat_map (leaf_clash x) (entry_uses n b)

  pub record UsesLeft (i : ℕ) (best : Option Charge) : Type 0 where
    pub answer : least best (lowest (flat_map charged (entry_uses (n - i) (drop (entry_size * i) b)))) ≡ lowest (leaf_charges (entry_uses n b) (entry_uses n b))

  pub uses-all : {best : Option Charge} → best ≡ lowest [] → UsesLeft 0 best
  unfolding leaf_charges lowest least
  uses-all e =
      let whole : n - 0 ≡ n = omega arith in
      record { answer = rw (e, whole) }

  pub uses-next : (i leaf : ℕ) {best row best' : Option Charge} {r : Bool} → UsesLeft i best → i < n → leaf ≡ leaf_number (entry_use_at i b).leaf
      → r ≡ reused_in (entry_use_at i b) (entry_uses n b) → row ≡ lowest (charge r 5 leaf) → best' ≡ least best row → UsesLeft (i + 1) best'
  unfolding flat_map
  uses-next i leaf {best} {row} {best'} left more el er erow eb =
      let later = flat_map charged (entry_uses (n - (i + 1)) (drop (entry_size * (i + 1)) b)) in
      let here : row ≡ lowest (charged (entry_use_at i b)) = erow ∙ (λ k. lowest (charge (er k) 5 (el k))) ∙ sym (one-use (entry_use_at i b) (entry_uses n b)) in
      record {
        answer =
            rw (eb, here)
            (least_assoc best (lowest (charged (entry_use_at i b))) (lowest later)
            ∙ ap (least best) (sym (lowest-append (charged (entry_use_at i b)) later))
            ∙ rw (left_first b n i more) at left.answer);
      }

  pub uses-done : (i : ℕ) {best : Option Charge} → UsesLeft i best → n ≤ i → best ≡ lowest (leaf_charges (entry_uses n b) (entry_uses n b))
  unfolding entry_uses flat_map lowest
  uses-done i {best} left h =
      let none_left : n - i ≡ 0 = omega arith in
      sym (least-none best) ∙ rw none_left at left.answer

-- ---- padded messages

padded-leaf : (x : Use) → (padded_use x).leaf ≡ x.leaf
unfolding padded_use use_of
padded-leaf x = refl

clash-padded : (x y : Use) → leaf_clash (padded_use x) (padded_use y) ≡ leaf_clash x y
unfolding leaf_clash
clash-padded x y = λ i. charge (reused-padded x y i) 5 (leaf_number (padded-leaf x i))

against_padded : (x : Use) (us : List Use) → flat_map (leaf_clash (padded_use x)) (map padded_use us) ≡ flat_map (leaf_clash x) us
unfolding flat_map
against_padded x [] = refl
against_padded x (y ∷ ys) = λ i. clash-padded x y i ++ against_padded x ys i

pub charges-padded : (us : List Use) → leaf_charges (map padded_use us) (map padded_use us) ≡ leaf_charges us us
unfolding leaf_charges flat_map
charges-padded us = go us
  where
    go : (xs : List Use) → flat_map (λ x. flat_map (leaf_clash x) (map padded_use us)) (map padded_use xs) ≡ flat_map (λ x. flat_map (leaf_clash x) us) xs
    go [] = refl
    go (x ∷ xs) = λ i. against_padded x us i ++ go xs i
