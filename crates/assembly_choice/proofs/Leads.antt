-- From the rows of all terms to the leaders: one for each, or none.
-- Assumes nothing.
use mathlib.Core.Path.{◌≡◌, refl, ap, ◌∙◌}
use mathlib.Core.Bool.{Bool, true, false, cond}
use mathlib.Core.List.{List, [], ◌∷◌}
use mathlib.Core.Logic.{⊎_elim}
use mathlib.Core.Option.{some, none}
use Prim.Native.Nat.{ℕ, suc, ◌<◌}
use native.Mathlib.Omega.{arith}
use lib.Dec.{eqb}
use lib.ListN.{length, get_or, take, drop}
use lib.Seq.{get_or-take}
use Rattle.refusal.proofs.Laws.{look}
use Rattle.roster.specs.Roster.{replicas}
use Rattle.log_chain.specs.Log.{Form}
use Rattle.log_chain.specs.Runs.{Run}
use Rattle.submission.specs.View.{Lead}
use Rattle.assembly.specs.Items.{Item}
use Rattle.assembly.specs.Choice.{and_then, lead_from, leads_for}
use Rattle.assembly_copies.specs.Rows.{taken_size, leads_in, row_at}
use Rattle.assembly_copies.proofs.Taken.{row_later}
use Rattle.assembly_choice.specs.Settled.{all_taken, lead_of_row, term_at}

-- one, and then others
and_then_lem : (l : Lead) (b : Bool) (ls : List Lead) → and_then (some l) (cond b (some ls) none) ≡ cond b (some (l ∷ ls)) none
unfolding and_then
and_then_lem l true ls = refl
and_then_lem l false ls = refl

module _ (S : ℕ) (item_bytes : List ℕ) (form : Form) (roster : List ℕ) (items : List Item) where
  -- the first row, and then the others
  first-row : (r : Run) (rs : List Run) (taken : List ℕ) → get_or (take taken_size taken) 0 0 ≡ get_or taken 0 0
      → lead_of_row S item_bytes form (replicas roster) (row_at taken 0) r ≡ lead_from form roster items (replicas roster) 1 r
      → leads_for form roster items rs
      ≡ cond (all_taken (length rs) (drop taken_size taken)) (some (leads_in S item_bytes form (replicas roster) (drop taken_size taken) rs)) none
      → leads_for form roster items (r ∷ rs)
      ≡ cond (all_taken (length (r ∷ rs)) taken) (some (leads_in S item_bytes form (replicas roster) taken (r ∷ rs))) none
  unfolding leads_for leads_in all_taken lead_of_row and_then
  first-row r rs taken cell first rest =
      let later = all_taken (length rs) (drop taken_size taken) in
      rw (← first, rest, cell)
      (⊎_elim
      (λ (h : eqb (get_or taken 0 0) 0 ≡ true). rw h refl)
      (λ (h : eqb (get_or taken 0 0) 0 ≡ false). rw h (and_then_lem _ later _))
      (look (eqb (get_or taken 0 0) 0)))

  pub leads-all : (rs : List Run) (taken : List ℕ)
      → ((t : ℕ) → t < length rs
      → lead_of_row S item_bytes form (replicas roster) (row_at taken t) (term_at rs t) ≡ lead_from form roster items (replicas roster) 1 (term_at rs t))
      → leads_for form roster items rs ≡ cond (all_taken (length rs) taken) (some (leads_in S item_bytes form (replicas roster) taken rs)) none
  unfolding leads_for leads_in all_taken
  leads-all [] taken each = refl
  leads-all (r ∷ rs) taken each =
      first-row r rs taken (get_or-take taken_size taken 0 0 (omega arith)) (each 0 (omega arith))
      (leads-all rs (drop taken_size taken)
      (λ t h. ap (λ row. lead_of_row S item_bytes form (replicas roster) row (term_at rs t)) (row_later taken t) ∙ each (suc t) (omega arith)))
