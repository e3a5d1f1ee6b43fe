-- 20 comes exactly where some term has no candidate, if the checks before it passed.
-- Assumes nothing.
use mathlib.Core.Path.{◌≡◌, refl, sym, ◌∙◌}
use mathlib.Core.List.Memᴰ
use mathlib.Core.List.{List, [], ◌∷◌, Memᴰ}
use mathlib.Core.Logic.{⊎_elim}
use mathlib.Core.Option.{Option, some, none, some-ne-none}
use Prim.Native.Nat.{ℕ}
use Rattle.roster.specs.Roster.{replicas, signature_size, roster_number}
use Rattle.log_chain.specs.Log.{Form}
use Rattle.log_chain.specs.Runs.{Run, runs}
use Rattle.submission.specs.View.{Lead}
use Rattle.submission.specs.Validate.{form_of}
use Rattle.assembly.specs.Items.{Item}
use Rattle.assembly.specs.Choice.{lead_from, and_then, leads_for}
use Rattle.assembly.specs.Assembly.{records_given, items_given, input_number, assemble_number}
use Rattle.assembly.proofs.Answers.{output-decides, none-led, only-none-led}
use Rattle.assembly.proofs.Claim.{not-all-led, no_bytes}

-- ---- the leads

module _ (form : Form) (roster : List ℕ) (is : List Item) where
  one-missing : (rs : List Run) → leads_for form roster is rs ≡ none
      → (r : Run) × Memᴰ r rs × (lead_from form roster is (replicas roster) 1 r ≡ none)
  unfolding leads_for and_then
  one-missing [] e = absurd (some-ne-none _ e)
  one-missing (r ∷ rs) e = go (lead_from form roster is (replicas roster) 1 r) refl (leads_for form roster is rs) (one-missing rs) e
    where
      go : (o : Option Lead) → lead_from form roster is (replicas roster) 1 r ≡ o → (os : Option (List Lead))
          → (os ≡ none → (q : Run) × Memᴰ q rs × (lead_from form roster is (replicas roster) 1 q ≡ none))
          → and_then o os ≡ none → (q : Run) × Memᴰ q (r ∷ rs) × (lead_from form roster is (replicas roster) 1 q ≡ none)
      go none at os later e = (r, Memᴰ.head refl, at)
      go (some l) at none later e = let q = later refl in (q.0, Memᴰ.tail q.1, q.2)
      go (some l) at (some ls) later e = absurd (some-ne-none _ e)

  later-missing : (o : Option Lead) (os : Option (List Lead)) → os ≡ none → and_then o os ≡ none
  unfolding and_then
  later-missing none os e = refl
  later-missing (some l) none e = refl
  later-missing (some l) (some ls) e = absurd (some-ne-none _ e)

  one-is-enough : (rs : List Run) (r : Run) → Memᴰ r rs → lead_from form roster is (replicas roster) 1 r ≡ none
      → leads_for form roster is rs ≡ none
  unfolding leads_for and_then
  one-is-enough [] r m e = absurd (Memᴰ.not-nil m)
  one-is-enough (s ∷ rs) r m e =
      ⊎_elim
      (λ (h : r ≡ s). rw (← h, e))
      (λ h. later-missing (lead_from form roster is (replicas roster) 1 s) (leads_for form roster is rs) (one-is-enough rs r h e))
      (Memᴰ.cases_cons m)

-- ---- the number

module _ (roster log item_bytes output : List ℕ) (fine : roster_number roster ≡ 0)
    (met : input_number (form_of roster).term_bytes (signature_size roster) log item_bytes ≡ 0) where
  number-20-only : assemble_number roster log item_bytes output ≡ 20
      → (r : Run) × Memᴰ r (runs (records_given roster log))
      × (lead_from (form_of roster) roster (items_given roster item_bytes) (replicas roster) 1 r ≡ none)
  number-20-only e =
      let none_made = only-none-led roster log item_bytes output (output-decides roster log item_bytes output fine met ∙ e) in
      one-missing (form_of roster) roster (items_given roster item_bytes) (runs (records_given roster log)) (no_bytes roster log item_bytes none_made)

  number-20 : (r : Run) → Memᴰ r (runs (records_given roster log))
      → lead_from (form_of roster) roster (items_given roster item_bytes) (replicas roster) 1 r ≡ none → assemble_number roster log item_bytes output ≡ 20
  number-20 r m e =
      let missing = one-is-enough (form_of roster) roster (items_given roster item_bytes) (runs (records_given roster log)) r m e in
      sym (output-decides roster log item_bytes output fine met) ∙ none-led roster log item_bytes output (not-all-led roster log item_bytes missing)
