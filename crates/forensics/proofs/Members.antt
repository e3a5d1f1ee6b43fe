-- Where charges come from: each is of two statements or of two uses of a leaf, and a row is one of them.
-- Assumes nothing.
use mathlib.Core.Path.{◌≡◌, refl, sym, subst}
use mathlib.Core.Bool.{Bool, true, false, cond}
use mathlib.Core.List.Memᴰ
use mathlib.Core.List.{List, [], ◌∷◌, ◌++◌, flat_map, Memᴰ}
use mathlib.Core.Logic.{◌⊎◌, inl, inr, ⊎_elim}
use mathlib.Core.Option.{Option, some, none, some-ne-none, some-injective}
use Prim.Native.Nat.{ℕ, ◌<◌}
use native.Mathlib.Omega.{arith}
use Rattle.words.proofs.Members.{joined-mem}
use Rattle.lm_format.specs.Leaf.{leaf_number}
use Rattle.lm_format.specs.Uses.{Use}
use Rattle.log_chain.specs.Claim.{Claim, stamped, received, voted}
use Rattle.replica.specs.Charges.{Charge, charge, clash, leaf_clash}
use Rattle.submission.specs.View.{Slot}
use Rattle.submission.specs.Validate.{uses}
use Rattle.forensics.specs.Findings.{says, charges, leaf_charges, all_charges, sooner, lower, lowest}

-- ---- charges

-- of a rule that is broken there is one charge
charge_is : (b : Bool) (rule term : ℕ) (c : Charge) → Memᴰ c (charge b rule term) → c ≡ record { rule = rule; term = term }
unfolding charge
charge_is true rule term c m = Memᴰ.eq_of_singleton m
charge_is false rule term c m = absurd (Memᴰ.not-nil m)

-- the term of a statement
abbrev pub term_of : Claim → ℕ
term_of (stamped t log) = t
term_of (received t log) = t
term_of (voted b) = b.term

-- a charge of two statements has one of the rules, and the term of one of the two
pub record Of (x y : Claim) (c : Charge) : Type 0 where
  pub rule : 0 < c.rule
  pub term : (c.term ≡ term_of x) ⊎ (c.term ≡ term_of y)

pub clash_of : (x y : Claim) (c : Charge) → Memᴰ c (clash x y) → Of x y c
unfolding clash
clash_of (voted a) (voted b) c m = rw (charge_is _ _ _ c m) (record { rule = omega arith; term = inl refl })
clash_of (stamped t l) (stamped u k) c m = rw (charge_is _ _ _ c m) (record { rule = omega arith; term = inl refl })
clash_of (received t l) (voted b) c m = rw (charge_is _ _ _ c m) (record { rule = omega arith; term = inr refl })
clash_of (voted b) (received t l) c m = rw (charge_is _ _ _ c m) (record { rule = omega arith; term = inl refl })
clash_of (voted a) (stamped u k) c m = absurd (Memᴰ.not-nil m)
clash_of (stamped t l) (voted b) c m = absurd (Memᴰ.not-nil m)
clash_of (stamped t l) (received u k) c m = absurd (Memᴰ.not-nil m)
clash_of (received t l) (stamped u k) c m = absurd (Memᴰ.not-nil m)
clash_of (received t l) (received u k) c m = absurd (Memᴰ.not-nil m)

-- a charge of two uses has rule 5, and the leaf's number
pub reuse_of : (u v : Use) (c : Charge) → Memᴰ c (leaf_clash u v) → c ≡ record { rule = 5; term = leaf_number u.leaf }
unfolding leaf_clash
reuse_of u v c m = charge_is _ _ _ c m

-- what holds of the charges of every two of a replica's statements, and of every two of its uses, holds of all
module _ (as_use : Slot → Use) (k : ℕ) (xs ys : List Slot) (P : Charge → Type 0)
    (two : (x y : Claim) → Memᴰ x (says k xs) → Memᴰ y (says k ys) → (c : Charge) → Memᴰ c (clash x y) → P c)
    (reuse : (u v : Use) → Memᴰ u (uses as_use k (xs ++ ys)) → (c : Charge) → Memᴰ c (leaf_clash u v) → P c) where
  of-statements : (c : Charge) → Memᴰ c (charges k xs ys) → P c
  unfolding charges
  of-statements c m =
      let first = joined-mem (λ x. flat_map (clash x) (says k ys)) (says k xs) c m in
      let second = joined-mem (clash first.0) (says k ys) c first.2 in
      two first.0 second.0 first.1 second.1 c second.2

  of-uses : (c : Charge) → Memᴰ c (leaf_charges (uses as_use k (xs ++ ys)) (uses as_use k (xs ++ ys))) → P c
  unfolding leaf_charges
  of-uses c m =
      let us = uses as_use k (xs ++ ys) in
      let first = joined-mem (λ u. flat_map (leaf_clash u) us) us c m in
      let second = joined-mem (leaf_clash first.0) us c first.2 in
      reuse first.0 second.0 first.1 c second.2

  pub of-all : (c : Charge) → Memᴰ c (all_charges as_use k xs ys) → P c
  unfolding all_charges
  of-all c m = ⊎_elim (λ h. of-statements c h) (λ h. of-uses c h) (Memᴰ.append_cases (charges k xs ys) m)

-- ---- rows

lower-mem : (c : Charge) (x : Option Charge) (cs : List Charge) → ((d : Charge) → x ≡ some d → Memᴰ d cs) → Memᴰ (lower c x) (c ∷ cs)
unfolding lower
lower-mem c none cs h = Memᴰ.head refl
lower-mem c (some d) cs h = go (sooner d c)
  where
    go : (b : Bool) → Memᴰ (cond b d c) (c ∷ cs)
    go true = Memᴰ.tail (h d refl)
    go false = Memᴰ.head refl

pub lowest-mem : (cs : List Charge) (d : Charge) → lowest cs ≡ some d → Memᴰ d cs
unfolding lowest
lowest-mem [] d e = absurd (some-ne-none d (sym e))
lowest-mem (c ∷ cs) d e = subst (λ x. Memᴰ x (c ∷ cs)) (some-injective _ _ e) (lower-mem c (lowest cs) cs (lowest-mem cs))
