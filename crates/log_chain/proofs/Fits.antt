-- Fields that fit their bytes: what the injectivity of statements asks of a claim.
-- Assumes nothing.
use mathlib.Core.Path.{◌≡◌}
use mathlib.Core.List.{List, [], ◌∷◌}
use Prim.Native.Nat.{ℕ, ◌^◌, ◌<◌}
use lib.ListN.{length}
use Rattle.log_chain.specs.Log.{Form, Record}
use Rattle.log_chain.specs.Claim.{Ballot, Claim, stamped, received, voted}

pub record RecordFits (form : Form) (r : Record) : Type 0 where
  pub term : r.term < 256 ^ form.term_bytes
  pub digest : length r.digest ≡ 32

pub data LogFits (form : Form) : List Record → Type 0 where
  empty : LogFits form []
  more : {r : Record} {log : List Record} → RecordFits form r → LogFits form log → LogFits form (r ∷ log)

-- a stamp's or a receipt's fields
pub record PlaceFits (form : Form) (t : ℕ) (log : List Record) : Type 0 where
  pub term : t < 256 ^ form.term_bytes
  pub index : length log < 256 ^ 4
  pub records : LogFits form log

pub record BallotFits (form : Form) (b : Ballot) : Type 0 where
  pub candidate : b.candidate < 256 ^ 2
  pub term : b.term < 256 ^ form.term_bytes
  pub last_term : b.last_term < 256 ^ form.term_bytes
  pub last_index : b.last_index < 256 ^ 4
  pub last_pointer : length b.last_pointer ≡ 32

abbrev pub ClaimFits : Form → Claim → Type 0
ClaimFits form (stamped term log) = PlaceFits form term log
ClaimFits form (received term log) = PlaceFits form term log
ClaimFits form (voted b) = BallotFits form b
