-- One candidate in one term: its votes and its stamp, asked in order; and what the row then says.
-- Assumes nothing.
use mathlib.Core.Path.{◌≡◌, refl, sym, ap, ◌∙◌}
use mathlib.Core.Bool.{Bool, true, false, not, cond}
use mathlib.Core.List.{List, [], ◌∷◌}
use mathlib.Core.Logic.{⊎_elim}
use mathlib.Core.Option.{Option, none, or_else}
use Prim.Native.Nat.{ℕ, ◌≤◌, ◌<◌}
use native.Mathlib.Omega.{arith}
use borrow.Author.Tests.{eq-eqb, ne_eqb, eqb-true, eqb-false}
use lib.Count.{ones}
use lib.Dec.{eqb, leb}
use lib.ListN.{take}
use lib.Seq.{take-take}
use Rattle.refusal.specs.Checks.{all}
use Rattle.refusal.proofs.Laws.{look}
use Rattle.roster.specs.Roster.{replicas, quorum}
use Rattle.roster.specs.Masks.{signer}
use Rattle.log_chain.specs.Log.{Form}
use Rattle.log_chain.specs.Runs.{Run}
use Rattle.submission.specs.View.{Lead}
use Rattle.submission_encoding.specs.Copies.{signers_of, signature_of}
use Rattle.assembly.specs.Items.{Item}
use Rattle.assembly.specs.Choice.{votes_for, stamp_by, lead_of, lead_by}
use Rattle.roster.specs.Sizes.{replicas_most}
use Rattle.assembly_copies.specs.Rows.{copy_at, copies_at, lead_in}
use Rattle.assembly_choice.specs.Settled.{electable, settled_row, lead_of_row}

module _ (S : ℕ) (item_bytes : List ℕ) (form : Form) (n c : ℕ) (few : n ≤ replicas_most) (some_one : 0 < c) (votes : List ℕ) (r : Run) where
  -- a row that was put down says what the votes and the stamp make of the candidate
  row-says : (stamp : ℕ) → (stamp ≡ 0 → ⊥)
      → lead_of_row S item_bytes form n (c ∷ stamp ∷ take replicas_most votes) r ≡ lead_of form c r (copies_at S item_bytes n votes) (copy_at S item_bytes stamp)
  unfolding lead_of_row lead_in lead_of copies_at copy_at signature_of
  row-says stamp there = rw (ne_eqb c 0 (λ e. omega arith), ne_eqb stamp 0 there, take-take n replicas_most votes few)

  no-stamp : (stamp : ℕ) (vs : List (Option (List ℕ))) → stamp ≡ 0 → lead_of form c r vs (copy_at S item_bytes stamp) ≡ none
  unfolding lead_of copy_at
  no-stamp stamp vs e = rw (eq-eqb stamp 0 e)

  stamped-first : (stamp : ℕ) (vs : List (Option (List ℕ))) (o : Option Lead) → (stamp ≡ 0 → ⊥)
      → or_else (lead_of form c r vs (copy_at S item_bytes stamp)) o ≡ lead_of form c r vs (copy_at S item_bytes stamp)
  unfolding lead_of copy_at or_else
  stamped-first stamp vs o there = rw (ne_eqb stamp 0 there)

-- two tests, and then a third
all_three : (a b d : Bool) → all (a ∷ b ∷ d ∷ []) ≡ cond (all (a ∷ b ∷ [])) d false
unfolding all
all_three true true true = refl
all_three true true false = refl
all_three true false d = refl
all_three false b d = refl

-- ---- a row after a candidate was tried: it comes before those above it

module _ (S : ℕ) (item_bytes : List ℕ) (form : Form) (roster : List ℕ) (items : List Item) (few : replicas roster ≤ replicas_most)
    (c : ℕ) (some_one : 0 < c) (r : Run) (votes : List ℕ) (stamp : ℕ) (row : List ℕ)
    (voted : copies_at S item_bytes (replicas roster) votes ≡ votes_for form roster items c r)
    (stamped : copy_at S item_bytes stamp ≡ stamp_by form roster items c r) where
  abbrev mask : ℕ
  mask = signers_of (copies_at S item_bytes (replicas roster) votes)

  abbrev asked : Bool
  asked = all (leb (quorum (replicas roster)) (ones mask) ∷ signer mask c ∷ [])

  abbrev said : Option Lead
  said = lead_of form c r (copies_at S item_bytes (replicas roster) votes) (copy_at S item_bytes stamp)

  lead-asked : lead_by form roster items c r ≡ cond asked said none
  unfolding lead_by
  lead-asked = rw (← voted, ← stamped) refl

  row-asked : settled_row S item_bytes (replicas roster) c votes stamp row ≡ cond (cond asked (not (eqb stamp 0)) false) (c ∷ stamp ∷ take replicas_most votes) row
  unfolding settled_row electable
  row-asked = rw all_three refl

  pub lead-settled : lead_of_row S item_bytes form (replicas roster) (settled_row S item_bytes (replicas roster) c votes stamp row) r
      ≡ or_else (lead_by form roster items c r) (lead_of_row S item_bytes form (replicas roster) row r)
  unfolding or_else
  lead-settled =
      let before = lead_of_row S item_bytes form (replicas roster) row r in
      rw (lead-asked, row-asked)
      (⊎_elim
      (λ (h : asked ≡ true).
      ⊎_elim
      (λ (z : eqb stamp 0 ≡ true).
      rw (h, z) (sym (ap (λ o. or_else o before) (no-stamp S item_bytes form (replicas roster) c few some_one votes r stamp _ (eqb-true stamp 0 z)))))
      (λ (z : eqb stamp 0 ≡ false).
      let there = eqb-false stamp 0 z in
      rw (h, z)
      (row-says S item_bytes form (replicas roster) c few some_one votes r stamp there
      ∙ sym (stamped-first S item_bytes form (replicas roster) c few some_one votes r stamp _ before there)))
      (look (eqb stamp 0)))
      (λ (h : asked ≡ false). rw h refl)
      (look asked))
