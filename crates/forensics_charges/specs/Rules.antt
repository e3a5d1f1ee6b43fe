-- Rules 1 to 4 over terms and receipts (document 01, "The report"; rule 1: document 02, W4).
use Rattle.std.specs.Prelude.{Bool, false, [], ◌∷◌, ℕ, eqb, leb, ltb, Option, Some, None}
use Rattle.refusal.specs.Checks.{all}
use Rattle.roster.specs.Masks.{signer}
use Rattle.log_chain.specs.Ends.{staler}
use Rattle.log_chain.specs.Claim.{Ballot}
use Rattle.replica.specs.Charges.{two_votes}
use Rattle.forensics_charges.specs.declared.Tenure.{Tenure}
use Rattle.forensics_charges.specs.declared.Receipt.{Receipt}

-- the vote of a term's leader certificate
unfoldable pub vote_of : Tenure → Ballot
vote_of x =
    record {
      candidate = x.request.candidate;
      term = x.term;
      last_term = x.request.last_term;
      last_index = x.request.last_index;
      last_pointer = x.request.last_pointer;
    }

-- logs differ first at an index, if at all, that is not above two others
unfoldable pub reached : Option ℕ → ℕ → ℕ → Bool
reached None i j = false
reached (Some index) i j = all (leb index i ∷ leb index j ∷ [])

-- for replica k
module _ (k : ℕ) where
  -- rule 1: a signer of leader certificates of one term with different votes
  unfoldable pub two_requests : Tenure → Tenure → Bool
  two_requests x y = all (signer x.signers k ∷ signer y.signers k ∷ two_votes (vote_of x) (vote_of y) ∷ [])

  -- rule 2: stamps in one term, and the logs differ first at an index, if at all, that is not above either
  unfoldable pub two_logs : Option ℕ → Tenure → Tenure → Bool
  two_logs difference x y =
      all (
      eqb x.request.candidate k ∷ eqb y.request.candidate k ∷ eqb x.term y.term ∷
      reached difference x.end y.end ∷ []
      )

  -- rules 3 and 4: a receipt, and a vote of a higher term for a staler log
  unfoldable pub forgotten : Receipt → Tenure → Bool
  forgotten r y =
      all (
      signer r.signers k ∷ signer y.signers k ∷ ltb r.term y.term ∷
      staler y.request.last_term y.request.last_index r.term r.index ∷ []
      )
