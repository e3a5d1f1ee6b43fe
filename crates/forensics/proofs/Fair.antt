-- A replica that keeps the board rules and the leaf rule has no charge: all that its signatures stand on was signed in its acts, where no two claims
-- clash and no leaf is used twice. That a claim was signed follows from its bytes, since both claims fit their fields and their chain strings are kept
-- apart; rule 5 compares the bytes themselves, and needs none of that.
-- Assumes nothing.
use mathlib.Core.Path.{◌≡◌, refl, sym, subst, ◌∙◌}
use mathlib.Core.Bool.{true, cond}
use mathlib.Core.List.{List, [], ◌∷◌, map, flat_map, Memᴰ}
use mathlib.Core.Logic.{⊎_elim}
use Prim.Native.Nat.{ℕ, ◌^◌, ◌<◌}
use borrow.Author.Tests.{eqb-true}
use lib.Dec.{eqb}
use Rattle.words.proofs.Members.{joined-empty, mem-cond}
use Rattle.lm_format.specs.Uses.{Use}
use Rattle.log_chain.specs.Log.{Form, chain_strings}
use Rattle.log_chain.specs.Claim.{Claim, say}
use Rattle.log_chain.specs.Apart.{Apart}
use Rattle.log_chain.proofs.Fits.{ClaimFits}
use Rattle.log_chain.proofs.Said.{strings_of, say-injective}
use Rattle.replica.specs.Replica.{Signing, Act, first, keeps, signed, held, use_in}
use Rattle.replica.specs.Charges.{NeverCharged, clash, leaf_clash}
use Rattle.replica.proofs.Honest.{never_charged}
use Rattle.replica.proofs.Signed.{signed-fits, signed-held}
use Rattle.submission.specs.View.{Slot}
use Rattle.submission.specs.Validate.{uses}
use Rattle.forensics.specs.Findings.{says, charges, leaf_charges}

-- ---- from claims to charges

-- what is picked from the slots of replica k stands in one of them
own_slot : {A : Type 0} (f : Slot → A) (k : ℕ) (pick : List Slot → List A) → pick [] ≡ []
    → ((x : Slot) (xs : List Slot) → pick (x ∷ xs) ≡ cond (eqb x.replica k) (f x ∷ pick xs) (pick xs))
    → (xs : List Slot) (a : A) → Memᴰ a (pick xs) → (x : Slot) × Memᴰ x xs × (x.replica ≡ k) × (a ≡ f x)
own_slot f k pick none more [] a m = absurd (mathlib.Core.List.Memᴰ.not-nil (subst (Memᴰ a) none m))
own_slot f k pick none more (x ∷ xs) a m =
    let Found : Type 0 = (y : Slot) × Memᴰ y (x ∷ xs) × (y.replica ≡ k) × (a ≡ f y) in
    let later : Memᴰ a (pick xs) → Found =
    λ h. let r = own_slot f k pick none more xs a h in (r.0, mathlib.Core.List.Memᴰ.tail r.1, r.2, r.3) in
    ⊎_elim
    (λ h. ⊎_elim (λ (e : a ≡ f x). (x, mathlib.Core.List.Memᴰ.head refl, eqb-true x.replica k h.0, e)) later (mathlib.Core.List.Memᴰ.cases_cons h.1))
    (λ h. later h.1)
    (mem-cond (eqb x.replica k) (f x ∷ pick xs) (pick xs) a (subst (Memᴰ a) (more x xs) m))

-- what it says
pub says_slot : (k : ℕ) (xs : List Slot) (c : Claim) → Memᴰ c (says k xs) → (x : Slot) × Memᴰ x xs × (x.replica ≡ k) × (c ≡ x.claim)
unfolding says
says_slot k xs c m = own_slot (λ x. x.claim) k (says k) refl (λ x xs. refl) xs c m

-- and what it used its leaves for
pub uses-slot : (as_use : Slot → Use) (k : ℕ) (xs : List Slot) (u : Use) → Memᴰ u (uses as_use k xs)
    → (x : Slot) × Memᴰ x xs × (x.replica ≡ k) × (u ≡ as_use x)
unfolding uses
uses-slot as_use k xs u m = own_slot as_use k (uses as_use k) refl (λ x xs. refl) xs u m

module _ (form : Form) (n : ℕ) where
  -- all that replica k's signatures stand on was signed in the acts
  abbrev pub Signed : ℕ → List Slot → List Act → Type 0
  Signed k xs acts =
      (x : Slot) → Memᴰ x xs → x.replica ≡ k → (z : Signing) × Memᴰ z (signed first acts) × (z.claim ≡ x.claim)

  pub fair : (k : ℕ) (xs ys : List Slot) (acts : List Act) → keeps form n first acts ≡ true → Signed k xs acts → Signed k ys acts
      → charges k xs ys ≡ []
  unfolding charges NeverCharged
  fair k xs ys acts e sx sy =
      let own : (zs : List Slot) → Signed k zs acts → (c : Claim) → Memᴰ c (says k zs)
      → (z : Signing) × Memᴰ z (signed first acts) × (z.claim ≡ c) =
      λ zs sz c m. let r = says_slot k zs c m in let z = sz r.0 r.1 r.2 in (z.0, z.1, z.2 ∙ sym r.3) in
      joined-empty (λ c. flat_map (clash c) (says k ys)) (says k xs) (λ c mc.
      joined-empty (clash c) (says k ys) (λ d md.
      let x = own xs sx c mc in
      let y = own ys sy d md in
      rw (x.2, y.2) at (never_charged form n acts e x.0 y.0 x.1 y.1).0))

  -- each of replica k's signatures is a use of a leaf in the acts
  abbrev pub Used : (Slot → Use) → ℕ → List Slot → List Act → Type 0
  Used as_use k xs acts =
      (x : Slot) → Memᴰ x xs → x.replica ≡ k → Memᴰ (as_use x) (map (use_in form) (signed first acts))

  pub fair-leaves : (as_use : Slot → Use) (k : ℕ) (xs : List Slot) (acts : List Act) → keeps form n first acts ≡ true → Used as_use k xs acts
      → leaf_charges (uses as_use k xs) (uses as_use k xs) ≡ []
  unfolding leaf_charges NeverCharged
  fair-leaves as_use k xs acts e used =
      let own : (u : Use) → Memᴰ u (uses as_use k xs) → (z : Signing) × Memᴰ z (signed first acts) × (use_in form z ≡ u) =
      λ u m. let r = uses-slot as_use k xs u m in
      let z = mathlib.Core.List.Memᴰ.of_map (use_in form) (signed first acts) (used r.0 r.1 r.2) in (z.0, z.1, z.2 ∙ sym r.3) in
      joined-empty (λ u. flat_map (leaf_clash u) (uses as_use k xs)) (uses as_use k xs) (λ u mu.
      joined-empty (leaf_clash u) (uses as_use k xs) (λ v mv.
      let x = own u mu in
      let y = own v mv in
      rw (x.2, y.2) at (never_charged form n acts e x.0 y.0 x.1 y.1).1))

  -- ---- from statements to claims

  pub own-claim : n < 256 ^ 2 → (acts : List Act) → keeps form n first acts ≡ true
      → (strings : List (List ℕ)) → Apart strings strings
      → ((x : List ℕ) → Memᴰ x (flat_map (chain_strings form) (held first acts)) → Memᴰ x strings)
      → (c : Claim) → ClaimFits form c → ((x : List ℕ) → Memᴰ x (strings_of form c) → Memᴰ x strings)
      → (z : Signing) → Memᴰ z (signed first acts) → say form z.claim ≡ say form c → z.claim ≡ c
  unfolding Apart
  own-claim few acts e strings apart kept c fits mine z m d =
      let same-strings : Apart (strings_of form c) (strings_of form z.claim) =
      λ x y mx my. apart x y (mine x mx) (kept y (signed-held form acts first z m y my)) in
      sym (say-injective form c z.claim fits (signed-fits form n few acts e z m) same-strings (sym d))
