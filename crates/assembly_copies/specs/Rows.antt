-- Copies by the places where their signatures stand in the bag; and what is taken for each term of a log and
-- for the commit, as a table of such places.
use Rattle.std.specs.Prelude.{cond, List, [], ◌∷◌, map, ℕ, ◌+◌, ◌-◌}
use Rattle.std.specs.Prelude.{◌≤◌, ◌<◌, ◌*◌, eqb, length, get_or, take, drop}
use Rattle.std.proofs.Math.Option.{Option, some, none}
use Rattle.roster.specs.Sizes.{replicas_most}
use Rattle.log_chain.specs.Log.{Form}
use Rattle.log_chain.specs.Runs.{Run}
use Rattle.submission.specs.View.{Certificate, Commit, Lead}
use Rattle.submission_encoding.specs.Copies.{signers_of, signature_of, signatures_of}
use Rattle.assembly.specs.Choice.{ballot_for}

-- the numbers of a row of what is taken: the candidate or the commit index, the stamp, the votes or receipts
abbrev pub taken_size : ℕ
taken_size = 2 + replicas_most

-- row t of a table of what is taken
abbrev pub row_at : List ℕ → ℕ → List ℕ
row_at taken t = take taken_size (drop (taken_size * t) taken)

module _ (S : ℕ) (item_bytes : List ℕ) where
  -- a signature by its place; place 0 is none
  unfoldable pub copy_at : ℕ → Option (List ℕ)
  copy_at place = cond (eqb place 0) none (some (take S (drop place item_bytes)))

  -- the copies of n replicas
  unfoldable pub copies_at : ℕ → List ℕ → List (Option (List ℕ))
  copies_at n places = map copy_at (take n places)

  -- each of so many places, if it is not 0, has a whole signature
  unfoldable pub Placed : ℕ → List ℕ → Type 0
  Placed count places = (j : ℕ) → j < count → get_or places j 0 ≤ length item_bytes - S

  -- ---- what is taken

  module _ (form : Form) (n : ℕ) where
    -- for a term, from its row
    unfoldable pub lead_in : List ℕ → Run → Lead
    lead_in row r =
        let votes = copies_at n (drop 2 row) in
        let c : Certificate =
        record {
          ballot = ballot_for form (get_or row 0 0) r;
          signers = signers_of votes;
          signatures = signatures_of votes;
        } in
        record { certificate = c; term = r; stamp = signature_of (copy_at (get_or row 1 0)) }

    -- for all terms, from the table
    unfoldable pub leads_in : List ℕ → List Run → List Lead
    leads_in table [] = []
    leads_in table (r ∷ rs) = lead_in (take taken_size table) r ∷ leads_in (drop taken_size table) rs

  -- for the commit, from its row; no commit with index 0
  unfoldable pub commit_in : ℕ → List ℕ → Option Commit
  commit_in n row =
      let index = get_or row 0 0 in
      let receipts = copies_at n (drop 2 row) in
      cond (eqb index 0) none
      (some (record { index = index; signers = signers_of receipts; signatures = signatures_of receipts }))
