-- What a submission says (document 01, "A submission, read from its trailer"): its log with the terms in it,
-- its certificates, and what each signature stands on.
use mathlib.Core.List.{List, [], ◌∷◌, ◌++◌, map, flat_map}
use Rattle.std.proofs.Math.Option.{Option, some, none}
use Rattle.std.specs.Prelude.{ℕ, take, drop}
use Rattle.roster.specs.Masks.{replicas_of}
use Rattle.log_chain.specs.Log.{Record, last_term}
use Rattle.log_chain.specs.Runs.{Run, runs}
use Rattle.log_chain.specs.Claim.{Ballot, Claim, stamped, received, voted}

-- ---- the certificates

-- a leader certificate: a vote's fields, the signers, and the bytes from the first signature on
pub record Certificate : Type 0 where
  pub ballot : Ballot
  pub signers : ℕ
  pub signatures : List ℕ

-- a commit certificate
pub record Commit : Type 0 where
  pub index : ℕ
  pub signers : ℕ
  pub signatures : List ℕ

pub record View : Type 0 where
  pub log : List Record
  pub leaders : List Certificate
  pub stamps : List (List ℕ)
  pub commit : Option Commit

-- a leader certificate and a stamp's signature, with the term of the log that they go with
pub record Lead : Type 0 where
  pub certificate : Certificate
  pub term : Run
  pub stamp : List ℕ

-- one per distinct term of the log, in log order
unfoldable pub leads_of : List Certificate → List Run → List (List ℕ) → List Lead
leads_of [] rs gs = []
leads_of (c ∷ cs) [] gs = []
leads_of (c ∷ cs) (r ∷ rs) [] = []
leads_of (c ∷ cs) (r ∷ rs) (g ∷ gs) = record { certificate = c; term = r; stamp = g } ∷ leads_of cs rs gs

unfoldable pub leads : View → List Lead
leads v = leads_of v.leaders (runs v.log) v.stamps

-- records 1 to c are committed; without a commit certificate, nothing is
unfoldable pub committed_by : Option Commit → List Record → List Record
committed_by none log = []
committed_by (some c) log = take c.index log

unfoldable pub committed : View → List Record
committed v = committed_by v.commit v.log

-- ---- what each signature stands on

-- a signature, its replica, and what it stands on
pub record Slot : Type 0 where
  pub replica : ℕ
  pub claim : Claim
  pub signature : List ℕ

unfoldable pub slot : ℕ → Claim → List ℕ → Slot
slot replica claim signature = record { replica = replica; claim = claim; signature = signature }

-- S is the bytes of a signature
module _ (S : ℕ) where
  -- one signature per signer, in rising replica order
  unfoldable pub certified : Claim → List ℕ → List ℕ → List Slot
  certified claim [] bytes = []
  certified claim (k ∷ ks) bytes = slot k claim (take S bytes) ∷ certified claim ks (drop S bytes)

  unfoldable pub votes_of : Lead → List Slot
  votes_of l =
      let c = l.certificate in
      certified (voted c.ballot) (replicas_of c.signers) c.signatures

  -- the stamp is the candidate's, on the last record of that term in this log
  unfoldable pub stamp_of : Lead → Slot
  stamp_of l =
      let upto = l.term.upto in
      slot l.certificate.ballot.candidate (stamped (last_term upto) upto) l.stamp

  -- receipts for record c's term, c and pointer c
  unfoldable pub receipts_of : Option Commit → List Record → List Slot
  receipts_of none log = []
  receipts_of (some c) log =
      let upto = take c.index log in
      certified (received (last_term upto) upto) (replicas_of c.signers) c.signatures

  -- all of them, in layout order
  unfoldable pub slots : View → List Slot
  slots v = flat_map votes_of (leads v) ++ map stamp_of (leads v) ++ receipts_of v.commit v.log
