-- The table of what is taken while candidates are tried, from n down: row by row.
use Rattle.std.specs.Prelude.{◌≡◌, Bool, true, false, not, cond, List, [], ◌∷◌, ℕ}
use Rattle.std.specs.Prelude.{zero, suc, ◌+◌, ◌-◌, ◌*◌, ◌<◌, eqb, leb, get_or, take, drop}
use Rattle.std.proofs.Math.Option.{Option, some, none}
use Rattle.std.specs.Int.Count.{ones}
use Rattle.refusal.specs.Checks.{all}
use Rattle.roster.specs.Roster.{cluster, replicas, quorum}
use Rattle.roster.specs.Masks.{signer}
use Rattle.log_chain.specs.Log.{Form, with_terms}
use Rattle.log_chain.specs.Runs.{Run, run}
use Rattle.submission.specs.View.{Lead}
use Rattle.submission_encoding.specs.Copies.{signers_of}
use Rattle.assembly.specs.Items.{items_of}
use Rattle.assembly.specs.Choice.{votes_for, stamp_by, lead_from}
use Rattle.roster.specs.Sizes.{replicas_most}
use Rattle.assembly_copies.specs.Rows.{taken_size, row_at, copy_at, copies_at, lead_in}
use Rattle.assembly_choice.specs.declared.Terms.{Terms}

-- each of so many rows has a candidate
unfoldable pub all_taken : ℕ → List ℕ → Bool
all_taken zero taken = true
all_taken (suc count) taken = cond (eqb (get_or taken 0 0) 0) false (all_taken count (drop taken_size taken))

-- ---- one candidate

-- a quorum of votes, the candidate's own among them, and a stamp
unfoldable pub electable : ℕ → ℕ → ℕ → ℕ → Bool
electable n mask candidate stamp =
    all (leb (quorum n) (ones mask) ∷ signer mask candidate ∷ not (eqb stamp 0) ∷ [])

-- a row after a candidate was tried, from the places of its votes and of its stamp
unfoldable pub settled_row : ℕ → List ℕ → ℕ → ℕ → List ℕ → ℕ → List ℕ → List ℕ
settled_row S item_bytes n candidate votes stamp row =
    cond (electable n (signers_of (copies_at S item_bytes n votes)) candidate stamp)
    (candidate ∷ stamp ∷ take replicas_most votes) row

-- so many rows of a table after a candidate was tried
unfoldable pub Settled : ℕ → ℕ → List ℕ → List ℕ → ℕ → List ℕ → List ℕ → Type 0
Settled n candidate voted stamped count before after =
    (S : ℕ) (item_bytes : List ℕ) (t : ℕ) → t < count
    → row_at after t
    ≡ settled_row S item_bytes n candidate (drop (replicas_most * t) voted)
    (get_or stamped (replicas_most * t + candidate - 1) 0) (row_at before t)

-- ---- the candidates tried so far

-- what a row says of a term; nothing with candidate 0
unfoldable pub lead_of_row : ℕ → List ℕ → Form → ℕ → List ℕ → Run → Option Lead
lead_of_row S item_bytes form n row r =
    cond (eqb (get_or row 0 0) 0) none (some (lead_in S item_bytes form n row r))

-- term t of some
abbrev pub term_at : List Run → ℕ → Run
term_at rs t = get_or rs t (run [] [])

module _ (roster item_bytes : List ℕ) (terms : Terms) (rs : List Run) where
  -- the places of the stamps of each replica on each term
  unfoldable pub StampsPlaced : List ℕ → Type 0
  StampsPlaced stamped =
      let form = with_terms terms.width (cluster roster) in
      (t k : ℕ) → t < terms.count → k < replicas roster
      → copy_at terms.size item_bytes (get_or stamped (replicas_most * t + k) 0)
      ≡ stamp_by form roster (items_of terms.width terms.size item_bytes) (suc k) (term_at rs t)

  -- and of the votes for a candidate in each term
  unfoldable pub VotesPlaced : ℕ → List ℕ → Type 0
  VotesPlaced candidate voted =
      let form = with_terms terms.width (cluster roster) in
      (t : ℕ) → t < terms.count
      → copies_at terms.size item_bytes (replicas roster) (drop (replicas_most * t) voted)
      ≡ votes_for form roster (items_of terms.width terms.size item_bytes) candidate (term_at rs t)

  -- the rows are of the lowest candidates among those above c
  unfoldable pub Tried : ℕ → List ℕ → Type 0
  Tried c taken =
      let form = with_terms terms.width (cluster roster) in
      let n = replicas roster in
      (t : ℕ) → t < terms.count
      → lead_of_row terms.size item_bytes form n (row_at taken t) (term_at rs t)
      ≡ lead_from form roster (items_of terms.width terms.size item_bytes) (n - c) (suc c) (term_at rs t)
