-- The rule of a leader certificate (check 13) in two parts: the log that its last fields name, and its
-- candidate.
use Rattle.std.specs.Prelude.{Bool, List, [], ◌∷◌, ℕ, eqb, leb, length}
use Rattle.words.specs.BigEndian.{same}
use Rattle.refusal.specs.Checks.{all}
use Rattle.roster.specs.Masks.{signer}
use Rattle.log_chain.specs.Log.{Record, last_term}
use Rattle.log_chain.specs.Claim.{Ballot}

-- last term, last index and last pointer are those of a log with a pointer
unfoldable pub follows : Ballot → List Record → List ℕ → Bool
follows b before pointer =
    all (eqb b.last_term (last_term before) ∷ eqb b.last_index (length before)
    ∷ same b.last_pointer pointer ∷ [])

-- the candidate is 1 to n and one of the signers
unfoldable pub elected : ℕ → ℕ → ℕ → Bool
elected n signers candidate = all (leb 1 candidate ∷ leb candidate n ∷ signer signers candidate ∷ [])
