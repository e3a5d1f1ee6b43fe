-- The board rules (document 01, "Board rules"; the leaf rule: document 02, W5): state, acts, what each act
-- may do, leaves behind and signs. A replica is document 01's board.
use Rattle.std.specs.Prelude.{Bool, true, false, not, cond, List, [], ◌∷◌}
use Rattle.std.specs.Prelude.{◌++◌, ℕ, ◌+◌, ◌^◌, leb, ltb, eqb, length, take}
use Rattle.std.proofs.Math.Option.{Option, some, none}
use Rattle.words.specs.BigEndian.{same}
use Rattle.refusal.specs.Checks.{all, every}
use Rattle.lm_format.specs.Leaf.{Leaf}
use Rattle.lm_format.specs.Uses.{Use, use_of, reused}
use Rattle.log_chain.specs.Log.{Form, Record, last_term}
use Rattle.log_chain.specs.Ends.{rising, staler}
use Rattle.log_chain.specs.Claim.{Ballot, Claim, stamped, received, voted, say}

-- a claim that was signed, and the leaf that it was signed with
pub record Signing : Type 0 where
  pub leaf : Leaf
  pub claim : Claim

unfoldable pub signing : Leaf → Claim → Signing
signing leaf claim = record { leaf = leaf; claim = claim }

pub record State : Type 0 where
  pub term : ℕ
  pub vote : Option Ballot
  pub stamp : Option ℕ
  pub log : List Record
  -- the leaves used, each with what it signed; the message is that claim's bytes
  pub used : List Signing

-- at first: term 0, no vote, no stamp, an empty log, no leaf used
unfoldable pub first : State
first = record { term = 0; vote = none; stamp = none; log = []; used = [] }

-- an act that signs does so with one leaf
pub data Act : Type 0 where
  raise : ℕ → Act
  vote : Leaf → Ballot → Act
  run : ℕ → List Record → Act
  add : Record → Act
  stamp : Leaf → Act
  receipt : Leaf → ℕ → Act
  decline restart : Act

-- ---- fields that fit

-- no act brings into the state, or signs, a term or an index that does not fit its field

-- the two tests of a length 32 are the sizes of a payload digest and of a pointer, and no rule of the
-- sentence above

unfoldable pub fits_term : Form → ℕ → Bool
fits_term form t = ltb t (256 ^ form.term_bytes)

unfoldable pub fits_index : ℕ → Bool
fits_index i = ltb i (256 ^ 4)

unfoldable pub fits_records : Form → List Record → Bool
fits_records form [] = true
fits_records form (r ∷ log) =
    cond (fits_term form r.term) (cond (eqb (length r.digest) 32) (fits_records form log) false) false

-- ---- the rules, one to a line

-- for one request (document 02, W4): the same candidate, last term, last index and last pointer
unfoldable pub same_request : Ballot → Ballot → Bool
same_request a b =
    all (
    eqb a.candidate b.candidate ∷ eqb a.last_term b.last_term ∷
    eqb a.last_index b.last_index ∷ same a.last_pointer b.last_pointer ∷ []
    )

-- the last vote is of another term, or for this request
unfoldable pub one_request : Option Ballot → Ballot → Bool
one_request none b = true
one_request (some a) b = cond (eqb a.term b.term) (same_request a b) true

-- no stamp in this term
unfoldable pub no_stamp : Option ℕ → ℕ → Bool
no_stamp none t = true
no_stamp (some u) t = not (eqb u t)

-- the log's end (u, j) is no staler than the log's before
unfoldable pub no_staler : List Record → ℕ → ℕ → Bool
no_staler log u j = not (staler u j (last_term log) (length log))

module _ (form : Form) (n : ℕ) where
  unfoldable pub rules : State → Act → List Bool
  rules s (raise t) =
      leb s.term t ∷  -- its term never falls
      fits_term form t ∷ []
  rules s (vote q b) =
      leb s.term b.term ∷  -- t is not below its own term
      leb 1 b.candidate ∷ leb b.candidate n ∷  -- a candidate 1 to n
      one_request s.vote b ∷  -- all votes of one term are for one request
      no_staler s.log b.last_term b.last_index ∷  -- no staler than its own log's
      fits_term form b.term ∷ fits_term form b.last_term ∷ fits_index b.last_index ∷
      eqb (length b.last_pointer) 32 ∷ []
  rules s (run k records) =
      let log = take k s.log ++ records in
      leb k (length s.log) ∷  -- keeps its first k records
      ltb 0 (length records) ∷  -- one or more records
      rising 1 log ∷  -- all terms above 0, none falls
      eqb (last_term log) s.term ∷  -- the last record has its own term
      no_staler s.log (last_term log) (length log) ∷  -- the log's end is no staler than before
      no_stamp s.stamp s.term ∷  -- it has not stamped in this term
      fits_records form records ∷ fits_index (length log) ∷ []
  rules s (add r) =
      eqb r.term s.term ∷  -- a record of its own term
      ltb 0 r.term ∷  -- above 0
      fits_records form (r ∷ []) ∷ fits_index (length s.log + 1) ∷ []
  rules s (stamp q) =
      ltb 0 (length s.log) ∷  -- the last record of its own log
      eqb (last_term s.log) s.term ∷ []  -- which has its own term
  rules s (receipt q i) =
      ltb 0 i ∷ leb i (length s.log) ∷  -- a record in its own log
      eqb (last_term (take i s.log)) s.term ∷ []  -- which has its own term
  rules s decline = []
  rules s restart = []

-- what an act signs
unfoldable pub signs : State → Act → List Signing
signs s (raise t) = []
signs s (vote q b) = signing q (voted b) ∷ []
signs s (run k records) = []
signs s (add r) = []
signs s (stamp q) = signing q (stamped s.term s.log) ∷ []
signs s (receipt q i) = signing q (received s.term (take i s.log)) ∷ []
signs s decline = []
signs s restart = []

-- ---- the leaf rule, apart from the board rules: one leaf, one message

-- the leaf, with the message's bytes
unfoldable pub use_in : Form → Signing → Use
use_in form x = use_of x.leaf (say form x.claim)

-- no leaf used before signs another message now
unfoldable pub one_message : Form → List Signing → Signing → Bool
one_message form used x = every (λ u. not (reused (use_in form u) (use_in form x))) used

unfoldable pub leaf_rule : Form → State → Act → Bool
leaf_rule form s a = every (one_message form s.used) (signs s a)

-- ---- both

unfoldable pub allowed : Form → ℕ → State → Act → Bool
allowed form n s a = all (all (rules form n s a) ∷ leaf_rule form s a ∷ [])

-- the state after an act, with the leaves used by then
unfoldable pub moved : State → Act → List Signing → State
moved s (raise t) used =
    record { term = t; vote = s.vote; stamp = s.stamp; log = s.log; used = used }
moved s (vote q b) used =
    record { term = b.term; vote = some b; stamp = s.stamp; log = s.log; used = used }
moved s (run k records) used =
    record { term = s.term; vote = s.vote; stamp = s.stamp; log = take k s.log ++ records; used = used }
moved s (add r) used =
    record { term = s.term; vote = s.vote; stamp = s.stamp; log = s.log ++ (r ∷ []); used = used }
moved s (stamp q) used =
    record { term = s.term; vote = s.vote; stamp = some s.term; log = s.log; used = used }
moved s (receipt q i) used =
    record { term = s.term; vote = s.vote; stamp = s.stamp; log = s.log; used = used }
moved s decline used = s
moved s restart used = s

unfoldable pub after : State → Act → State
after s a = moved s a (signs s a ++ s.used)

-- ---- over a list of acts, each on the state that the one before left

unfoldable pub keeps : Form → ℕ → State → List Act → Bool
keeps form n s [] = true
keeps form n s (a ∷ acts) = cond (allowed form n s a) (keeps form n (after s a) acts) false

unfoldable pub signed : State → List Act → List Signing
signed s [] = []
signed s (a ∷ acts) = signs s a ++ signed (after s a) acts

-- the logs held: the first state's, and the log after each act
unfoldable pub held : State → List Act → List (List Record)
held s [] = s.log ∷ []
held s (a ∷ acts) = s.log ∷ held (after s a) acts
