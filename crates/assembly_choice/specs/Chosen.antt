-- What the choice of leaders asks for and gives.
use Rattle.std.specs.Prelude.{◌≡◌, Bool, true, cond, List, ℕ, ◌+◌, ◌-◌, ◌*◌, ◌≤◌, ◌<◌, length, get_or}
use Rattle.std.proofs.Math.Option.{some, none}
use Rattle.words.specs.Widths.{width_most}
use Rattle.roster.specs.Roster.{cluster, replicas, roster_number}
use Rattle.roster.specs.Sizes.{signature_most}
use Rattle.log_chain.specs.Log.{with_terms}
use Rattle.log_chain.specs.Runs.{Run}
use Rattle.submission.specs.Validate.{leader_most}
use Rattle.assembly.specs.Items.{items_of, whole}
use Rattle.assembly.specs.Choice.{leads_for}
use Rattle.assembly_copies.specs.Rows.{taken_size, leads_in}
use Rattle.assembly_copies.specs.declared.Sought.{Sought}
use Rattle.assembly_terms.specs.Wanted.{VotesIn, StampsIn}
use Rattle.assembly_choice.specs.declared.Terms.{Terms}

-- what is looked for in a walk over the bag: a statement for each term
abbrev pub sought_for : Terms → ℕ → ℕ → Sought
sought_for t head tail =
    record { width = t.width; size = t.size; head = head; tail = tail; count = t.count }

pub record Choosable (roster item_bytes : List ℕ) (t : Terms) : Type 0 where
  pub fine : roster_number roster ≡ 0
  pub width : t.width ≤ width_most
  pub size : t.size ≤ signature_most
  pub items : whole t.width t.size item_bytes ≡ true
  pub count : t.count ≤ leader_most

-- each row of a term has a candidate from 0 to n, and places inside the bag
pub record RowsHeld (S : ℕ) (item_bytes : List ℕ) (n count : ℕ) (taken : List ℕ) : Type 0 where
  pub candidates : (t : ℕ) → t < count → get_or taken (taken_size * t) 0 ≤ n
  pub places : (t k : ℕ) → t < count → 0 < k → k < taken_size
      → get_or taken (taken_size * t + k) 0 ≤ length item_bytes - S

-- the leaders of whatever terms the tables are of: those of the table, if every term has one
unfoldable pub LeadersChosen : List ℕ → List ℕ → List ℕ → List ℕ → Terms → Bool → List ℕ → Type 0
LeadersChosen roster item_bytes votes stamps t found taken =
    let form = with_terms t.width (cluster roster) in
    (rs : List Run) → length rs ≡ t.count → VotesIn form 0 rs votes → StampsIn form rs stamps
    → leads_for form roster (items_of t.width t.size item_bytes) rs
    ≡ cond found (some (leads_in t.size item_bytes form (replicas roster) taken rs)) none
