-- What the two claims of demand 3 give, drawn from the claims alone: a claim that said less would not give it.
-- Assumes nothing.
use mathlib.Core.Path.{◌≡◌, refl, sym, subst, ◌∙◌}
use mathlib.Core.Bool.{true, false, true≢false}
use mathlib.Core.List.{List, [], ◌∷◌, ◌++◌, flat_map, append-nil, Memᴰ}
use mathlib.Core.Logic.{◌⊎◌, ⊎_elim}
use Prim.Native.Nat.{ℕ, suc, ◌≤◌, ◌<◌}
use borrow.Author.Tests.{eq-eqb}
use Rattle.words.proofs.Same.{true_same}
use Rattle.refusal.proofs.Laws.{look}
use Rattle.lm_format.specs.Leaf.{Leaf, leaf_of}
use Rattle.lm_format.specs.Uses.{use_of}
use Rattle.lms.specs.Check.{good}
use Rattle.roster.specs.Roster.{replicas, key_of}
use Rattle.roster.specs.Masks.{signer}
use Rattle.log_chain.specs.Log.{Record, chain_strings, chain_from}
use Rattle.log_chain.specs.Claim.{Ballot, voted, say}
use Rattle.log_chain.specs.Apart.{Apart}
use Rattle.replica.specs.Replica.{signing, raise, vote, first, moved, after, signs, use_in, keeps, signed, held}
use Rattle.log_chain.specs.Difference.{same_record}
use Rattle.submission.specs.View.{Slot}
use Rattle.submission.specs.Validate.{form_of, view_of, slots_of}
use Rattle.log_chain.specs.Difference.{differ_at}
use Rattle.forensics.specs.Findings.{fork}
use Rattle.report.specs.Report.{named_in}
use Rattle.report.specs.Claims.{Differ, Naming, OwnSignatures, strings_in, strings, Fair, Fairness}

-- records that are not the same differ
itself : (r : Record) → same_record r r ≡ true
unfolding same_record
itself r = rw (eq-eqb r.term r.term refl) (true_same r.digest)

apart_records : (r s : Record) → same_record r s ≡ false → r ≡ s → ⊥
apart_records r s e d = true≢false (sym (subst (λ (x : Record). same_record r x ≡ true) d (itself r)) ∙ e)

-- a fork index is a difference
differs : (i : ℕ) (l m : List Record) → (differ_at i l m ≡ 0 → ⊥) → Differ l m
unfolding differ_at
differs i [] m e = absurd (e refl)
differs i (r ∷ l) [] e = absurd (e refl)
differs i (r ∷ l) (s ∷ m) e =
    ⊎_elim
    (λ (h : same_record r s ≡ true).
    let d = differs (suc i) l m (λ z. e (rw h z)) in
    record { index = suc d.index; one = d.one; other = d.other; in_one = d.in_one; in-other = d.in-other; differ = d.differ })
    (λ (h : same_record r s ≡ false).
    record { index = 0; one = r; other = s; in_one = refl; in-other = refl; differ = apart_records r s h })
    (look (same_record r s))

module _ (roster s₁ s₂ : List ℕ) (number : ℕ) (report : List ℕ) where
  -- naming: wherever the definitions have a fork, somebody is named
  fork-named : Naming roster s₁ s₂ number report → number ≡ 0 → (fork (view_of roster s₁) (view_of roster s₂) ≡ 0 → ⊥) → named_in report ≡ 0 → ⊥
  unfolding Naming fork
  fork-named claim zero_number forked nobody = claim zero_number (differs 1 _ _ forked) nobody

  -- fairness: a replica under whose key no signature of the two is good is not named, if no two chain strings of the two have one digest
  silent : Fairness roster s₁ s₂ number report → (number ≡ 1 → ⊥) → (k : ℕ) → 0 < k → k ≤ replicas roster
      → ((x : Slot) → Memᴰ x (slots_of roster s₁ ++ slots_of roster s₂) → good (key_of roster k) (say (form_of roster) x.claim) x.signature ≡ true → ⊥)
      → (let C = chain_strings (form_of roster) (view_of roster s₁).log ++ chain_strings (form_of roster) (view_of roster s₂).log in Apart C C)
      → signer (named_in report) k ≡ false
  unfolding Fairness Fair OwnSignatures strings strings_in keeps held first chain_strings chain_from flat_map
  silent claim other k low high bad apart =
      claim other k low high [] refl (λ x m g. absurd (bad x (rw (append-nil (slots_of roster s₂)) at m) g)) (rw append-nil apart)

  -- and one that has raised its term and cast one vote, if each good signature under its key has that vote's leaf and stands on its bytes
  voter : Fairness roster s₁ s₂ number report → (number ≡ 1 → ⊥) → (k : ℕ) → 0 < k → k ≤ replicas roster
      → (q : Leaf) (b : Ballot) → keeps (form_of roster) (replicas roster) first (raise 0 ∷ vote q b ∷ []) ≡ true
      → ((x : Slot) → Memᴰ x (slots_of roster s₁ ++ slots_of roster s₂) → good (key_of roster k) (say (form_of roster) x.claim) x.signature ≡ true
      → (leaf_of (key_of roster k) x.signature ≡ q) × (say (form_of roster) x.claim ≡ say (form_of roster) (voted b)))
      → (let C = chain_strings (form_of roster) (view_of roster s₁).log ++ chain_strings (form_of roster) (view_of roster s₂).log in Apart C C)
      → signer (named_in report) k ≡ false
  unfolding Fairness Fair OwnSignatures strings strings_in signed signs signing use_in moved after held first chain_strings chain_from flat_map
  voter claim other k low high q b keep own apart =
      claim other k low high (raise 0 ∷ vote q b ∷ []) keep
      (λ x m g. let e = own x (rw (append-nil (slots_of roster s₂)) at m) g in Memᴰ.head (λ i. use_of (e.0 i) (e.1 i))) (rw append-nil apart)

  -- and one that has cast it twice, with two leaves, if each has one of the two: no leaf is used twice
  voter-again : Fairness roster s₁ s₂ number report → (number ≡ 1 → ⊥) → (k : ℕ) → 0 < k → k ≤ replicas roster
      → (p q : Leaf) (b : Ballot) → keeps (form_of roster) (replicas roster) first (vote p b ∷ vote q b ∷ []) ≡ true
      → ((x : Slot) → Memᴰ x (slots_of roster s₁ ++ slots_of roster s₂) → good (key_of roster k) (say (form_of roster) x.claim) x.signature ≡ true
      → ((leaf_of (key_of roster k) x.signature ≡ p) ⊎ (leaf_of (key_of roster k) x.signature ≡ q))
      × (say (form_of roster) x.claim ≡ say (form_of roster) (voted b)))
      → (let C = chain_strings (form_of roster) (view_of roster s₁).log ++ chain_strings (form_of roster) (view_of roster s₂).log in Apart C C)
      → signer (named_in report) k ≡ false
  unfolding Fairness Fair OwnSignatures strings strings_in signed signs signing use_in moved after held first chain_strings chain_from flat_map
  voter-again claim other k low high p q b keep own apart =
      claim other k low high (vote p b ∷ vote q b ∷ []) keep
      (λ x m g. let e = own x (rw (append-nil (slots_of roster s₂)) at m) g in
      ⊎_elim (λ h. Memᴰ.head (λ i. use_of (h i) (e.1 i))) (λ h. Memᴰ.tail (Memᴰ.head (λ i. use_of (h i) (e.1 i)))) e.0)
      (rw append-nil apart)
