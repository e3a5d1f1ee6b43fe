-- The leaders, where all candidates were tried.
-- Assumes nothing.
use mathlib.Core.Path.{◌≡◌, sym, ap, ◌∙◌}
use mathlib.Core.Bool.{Bool, cond}
use mathlib.Core.List.{List}
use mathlib.Core.Option.{some, none}
use Prim.Native.Nat.{ℕ}
use native.Mathlib.Nat.{sub-zero}
use native.Mathlib.Omega.{arith}
use lib.ListN.{length}
use Rattle.roster.specs.Roster.{cluster, replicas}
use Rattle.log_chain.specs.Log.{with_terms}
use Rattle.log_chain.specs.Runs.{Run}
use Rattle.assembly.specs.Items.{items_of}
use Rattle.assembly_copies.specs.Rows.{leads_in}
use Rattle.assembly_terms.specs.Wanted.{VotesIn, StampsIn}
use Rattle.assembly_choice.specs.declared.Terms.{Terms}
use Rattle.assembly_choice.specs.Chosen.{LeadersChosen}
use Rattle.assembly_choice.specs.Settled.{all_taken, Tried}
use Rattle.assembly_choice.proofs.Leads.{leads-all}

module _ (roster item_bytes : List ℕ) (terms : Terms) where
  pub leaders-chosen : (votes stamps taken : List ℕ) (found : Bool) → found ≡ all_taken terms.count taken
      → ((rs : List Run) → length rs ≡ terms.count → VotesIn (with_terms terms.width (cluster roster)) 0 rs votes
      → StampsIn (with_terms terms.width (cluster roster)) rs stamps → Tried roster item_bytes terms rs 0 taken)
      → LeadersChosen roster item_bytes votes stamps terms found taken
  unfolding LeadersChosen Tried
  leaders-chosen votes stamps taken found e tried =
      λ rs all wanted-votes wanted-stamps.
      let form = with_terms terms.width (cluster roster) in
      let items = items_of terms.width terms.size item_bytes in
      let each = tried rs all wanted-votes wanted-stamps in
      leads-all terms.size item_bytes form roster items rs taken (λ t h. rw sub-zero at (each t (omega arith)))
      ∙ ap (λ b. cond b (some (leads_in terms.size item_bytes form (replicas roster) taken rs)) none) (ap (λ n. all_taken n taken) all ∙ sym e)
