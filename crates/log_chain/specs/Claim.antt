-- What a signature stands on, and its bytes (document 01, "Chain and statements"). A stamp's or a receipt's
-- claim has the log itself, the first records up to the index that it names; the pointer is computed only
-- where its bytes are. A vote's has the fields as they were sent.
use Rattle.std.specs.Prelude.{List, ◌∷◌, ◌++◌, ℕ, ◌+◌, length}
use Rattle.words.specs.BigEndian.{be}
use Rattle.log_chain.specs.Log.{Form, Record, pointer}

-- the fields of a vote
pub record Ballot : Type 0 where
  pub candidate : ℕ
  pub term : ℕ
  pub last_term : ℕ
  pub last_index : ℕ
  pub last_pointer : List ℕ

pub data Claim : Type 0 where
  stamped : ℕ → List Record → Claim
  received : ℕ → List Record → Claim
  voted : Ballot → Claim

-- term, index, pointer: the fields of a stamp and of a receipt
unfoldable pub place : Form → ℕ → List Record → List ℕ
place form term log = be form.term_bytes term ++ be 4 (length log) ++ pointer form log

-- candidate, term, last term, last index, last pointer: the fields of a vote
unfoldable pub ballot_bytes : Form → Ballot → List ℕ
ballot_bytes form b =
    be 2 b.candidate ++ be form.term_bytes b.term ++ be form.term_bytes b.last_term
    ++ be 4 b.last_index ++ b.last_pointer

-- the kind byte, the cluster's name, the fields
unfoldable pub say : Form → Claim → List ℕ
say form (stamped term log) = form.first_kind ∷ form.cluster ++ place form term log
say form (received term log) = (form.first_kind + 1) ∷ form.cluster ++ place form term log
say form (voted b) = (form.first_kind + 2) ∷ form.cluster ++ ballot_bytes form b
