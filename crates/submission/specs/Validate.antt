-- The checks on a submission (document 01, "What stops an audit", 5 to 15), each beside the paper's words,
-- and the number of the first that is not met.
use Rattle.std.specs.Prelude.{Bool, true, cond, List, [], ◌∷◌, ◌++◌, map, ℕ, ◌^◌, eqb, leb, ltb, length}
use Rattle.std.proofs.Math.Option.{Option, some, none}
use Rattle.std.specs.Int.Count.{ones}
use Rattle.words.specs.BigEndian.{same}
use Rattle.refusal.specs.Checks.{all, every, check, refusal}
use Rattle.lm_format.specs.Leaf.{leaf_of}
use Rattle.lm_format.specs.Uses.{Use, use_of}
use Rattle.lms.specs.Check.{good}
use Rattle.roster.specs.Roster.{cluster, replicas, quorum, key_of, signature_size}
use Rattle.roster.specs.Masks.{signer}
use Rattle.log_chain.specs.Log.{Form, version1, pointer, last_term}
use Rattle.log_chain.specs.Claim.{say}
use Rattle.log_chain.specs.Ends.{rising}
use Rattle.submission.specs.Trailer.{trailer_size, name, record_count, leader_count, version}
use Rattle.submission.specs.View.{Commit, View, Lead, leads, Slot, slots}
use Rattle.log_chain.specs.Runs.{runs}
use Rattle.submission.specs.Reading.{view, laid_out}

-- the most bytes, records and terms
abbrev pub submission_most : ℕ
submission_most = 2097152

abbrev pub record_most : ℕ
record_most = 4096

abbrev pub leader_most : ℕ
leader_most = 64

-- ---- the bytes

-- 5: not below 44 or above 2,097,152 bytes
unfoldable pub sized : List ℕ → Bool
sized s = all (leb trailer_size (length s) ∷ leb (length s) submission_most ∷ [])

-- 6: version 1
unfoldable pub versioned : List ℕ → Bool
versioned s = eqb (version s) 1

-- 7: the roster's name
unfoldable pub named : List ℕ → List ℕ → Bool
named cluster s = same (name s) cluster

-- 8: H not above 4,096, L not above 64
unfoldable pub counted : List ℕ → Bool
counted s = all (leb (record_count s) record_most ∷ leb (leader_count s) leader_most ∷ [])

-- 9 is `laid_out`

-- ---- what it says

-- 10: a quorum of signers, and no bit above replica n
unfoldable pub quorate : ℕ → ℕ → Bool
quorate n mask = all (leb (quorum n) (ones mask) ∷ ltb mask (2 ^ n) ∷ [])

unfoldable pub commit_signers : Option Commit → List ℕ
commit_signers none = []
commit_signers (some c) = c.signers ∷ []

-- the signers of every certificate
unfoldable pub masks : View → List ℕ
masks v = map (λ c. c.signers) v.leaders ++ commit_signers v.commit

-- 11: no term is 0 or below the one before
unfoldable pub ordered : View → Bool
ordered v = rising 1 v.log

-- 12: L is the number of distinct terms
unfoldable pub one_each : View → Bool
one_each v = eqb (length v.leaders) (length (runs v.log))

-- 13: that term, last index j - 1, and record j - 1's term and pointer, where j is the term's first record;
-- the candidate is 1 to n and is one of the signers
unfoldable pub leading : Form → ℕ → Lead → Bool
leading form n l =
    let b = l.certificate.ballot in
    let before = l.term.before in
    all (
    eqb b.term (last_term l.term.upto) ∷
    eqb b.last_term (last_term before) ∷ eqb b.last_index (length before) ∷
    same b.last_pointer (pointer form before) ∷ leb 1 b.candidate ∷ leb b.candidate n ∷
    signer l.certificate.signers b.candidate ∷ []
    )

-- 14: not 0 and not above H
unfoldable pub within : Option Commit → ℕ → Bool
within none H = true
within (some c) H = all (ltb 0 c.index ∷ leb c.index H ∷ [])

-- 15: the signature is good under the roster's key of its replica, on the statement of its certificate or
-- stamp
unfoldable pub genuine : Form → List ℕ → Slot → Bool
genuine form roster x = good (key_of roster x.replica) (say form x.claim) x.signature

-- the leaf of a signature, under the roster's key of its replica, and its message (document 02, W5)
unfoldable pub slot_use : Form → List ℕ → Slot → Use
slot_use form roster x = use_of (leaf_of (key_of roster x.replica) x.signature) (say form x.claim)

-- those of replica k's signatures, in their order
unfoldable pub uses : (Slot → Use) → ℕ → List Slot → List Use
uses as_use k [] = []
uses as_use k (x ∷ xs) = cond (eqb x.replica k) (as_use x ∷ uses as_use k xs) (uses as_use k xs)

-- ---- the number

-- version 1, with the roster's cluster name
unfoldable pub form_of : List ℕ → Form
form_of roster = version1 (cluster roster)

unfoldable pub view_of : List ℕ → List ℕ → View
view_of roster s = view (form_of roster).term_bytes (signature_size roster) s

unfoldable pub slots_of : List ℕ → List ℕ → List Slot
slots_of roster s = slots (signature_size roster) (view_of roster s)

-- 0, or the refusal of a submission against a roster
unfoldable pub validate : List ℕ → List ℕ → ℕ
validate roster s =
    let form = form_of roster in
    let n = replicas roster in
    let v = view_of roster s in
    refusal (
    check 5 (sized s) ∷ check 6 (versioned s) ∷ check 7 (named (cluster roster) s) ∷ check 8 (counted s) ∷
    check 9 (laid_out form.term_bytes (signature_size roster) s) ∷
    check 10 (every (quorate n) (masks v)) ∷ check 11 (ordered v) ∷ check 12 (one_each v) ∷
    check 13 (every (leading form n) (leads v)) ∷ check 14 (within v.commit (length v.log)) ∷
    check 15 (every (genuine form roster) (slots_of roster s)) ∷ []
    )
