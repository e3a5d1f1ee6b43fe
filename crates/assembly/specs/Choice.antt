-- What is taken from a bag for a log (document 02, W3): for each term its candidate, and the commit; over the
-- form.
use Rattle.std.specs.Prelude.{cond, List, [], ◌∷◌, ℕ, zero, suc, leb, length, take}
use Rattle.std.proofs.Math.Option.{Option, some, none, or_else}
use Rattle.std.specs.Int.Count.{ones}
use Rattle.refusal.specs.Checks.{all}
use Rattle.roster.specs.Roster.{replicas, quorum}
use Rattle.roster.specs.Masks.{signer}
use Rattle.log_chain.specs.Log.{Form, Record, pointer, last_term}
use Rattle.log_chain.specs.Claim.{Ballot, stamped, received, voted, say}
use Rattle.log_chain.specs.Runs.{Run}
use Rattle.submission.specs.View.{Certificate, Commit, Lead}
use Rattle.submission_encoding.specs.Copies.{signers_of, signatures_of}
use Rattle.assembly.specs.Items.{Item, copy_of, copies}

-- ---- one candidate

-- a vote that fits the log: the fields that check 13 asks, for a candidate in a term of the log
unfoldable pub ballot_for : Form → ℕ → Run → Ballot
ballot_for form candidate r =
    record {
      candidate = candidate;
      term = last_term r.upto;
      last_term = last_term r.before;
      last_index = length r.before;
      last_pointer = pointer form r.before;
    }

-- what votes and a stamp make of a candidate; nothing without a stamp
unfoldable pub lead_of : Form → ℕ → Run → List (Option (List ℕ)) → Option (List ℕ) → Option Lead
lead_of form candidate r votes none = none
lead_of form candidate r votes (some stamp) =
    let c : Certificate =
    record {
      ballot = ballot_for form candidate r;
      signers = signers_of votes;
      signatures = signatures_of votes;
    } in
    some (record { certificate = c; term = r; stamp = stamp })

-- one before others; none where either is missing
unfoldable pub and_then : Option Lead → Option (List Lead) → Option (List Lead)
and_then none ls = none
and_then (some l) none = none
and_then (some l) (some ls) = some (l ∷ ls)

module _ (form : Form) (roster : List ℕ) (items : List Item) where
  unfoldable pub votes_for : ℕ → Run → List (Option (List ℕ))
  votes_for candidate r = copies roster (say form (voted (ballot_for form candidate r))) items

  -- its stamp on the term's last record
  unfoldable pub stamp_by : ℕ → Run → Option (List ℕ)
  stamp_by candidate r = copy_of roster candidate (say form (stamped (last_term r.upto) r.upto)) items

  -- a quorum of votes, its own among them, and a stamp
  unfoldable pub lead_by : ℕ → Run → Option Lead
  lead_by candidate r =
      let votes = votes_for candidate r in
      let mask = signers_of votes in
      cond (all (leb (quorum (replicas roster)) (ones mask) ∷ signer mask candidate ∷ []))
      (lead_of form candidate r votes (stamp_by candidate r)) none

  -- ---- the lowest candidate

  -- of so many from one on
  unfoldable pub lead_from : ℕ → ℕ → Run → Option Lead
  lead_from zero candidate r = none
  lead_from (suc count) candidate r = or_else (lead_by candidate r) (lead_from count (suc candidate) r)

  -- one for each term, or none: 20
  unfoldable pub leads_for : List Run → Option (List Lead)
  leads_for [] = some []
  leads_for (r ∷ rs) = and_then (lead_from (replicas roster) 1 r) (leads_for rs)

  -- ---- the commit

  -- receipts that fit the first i records of the log
  unfoldable pub receipts_for : ℕ → List Record → List (Option (List ℕ))
  receipts_for i log =
      let upto = take i log in
      copies roster (say form (received (last_term upto) upto)) items

  -- the highest index, up to one, with a quorum of receipts; or none
  unfoldable pub commit_to : ℕ → List Record → Option Commit
  commit_to zero log = none
  commit_to (suc i) log =
      let receipts = receipts_for (suc i) log in
      let signers = signers_of receipts in
      cond (leb (quorum (replicas roster)) (ones signers))
      (some (record { index = suc i; signers = signers; signatures = signatures_of receipts }))
      (commit_to i log)
