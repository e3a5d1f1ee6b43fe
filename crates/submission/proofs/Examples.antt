-- Worked examples of the checks 5 to 15: for each a value on either side; and the uses of leaves. Signatures have one byte here, where only their
-- count matters.
-- Assumes nothing.
use mathlib.Core.Path.{◌≡◌, refl}
use mathlib.Core.Bool.{Bool, true, false}
use mathlib.Core.List.{List, [], ◌∷◌, ◌++◌, flat_map}
use mathlib.Core.Option.{Option, some, none}
use Prim.Native.Nat.{ℕ}
use lib.Count.{ones, ones_in}
use lib.ListN.{length, take, replicate}
use Rattle.words.specs.BigEndian.{number, be, number_at, same}
use Rattle.words.proofs.Same.{true_same}
use Rattle.refusal.specs.Checks.{all, every}
use Rattle.lm_format.specs.Leaf.{leaf_of}
use Rattle.lm_format.specs.Uses.{use_of}
use Rattle.lms.specs.Check.{good}
use Rattle.roster.specs.Roster.{quorum, key_of}
use Rattle.roster.specs.Masks.{signer, replicas_from, replicas_of}
use Rattle.log_chain.specs.Log.{Form, version1, Record, pointer, pointer_from, term_from, last_term}
use Rattle.log_chain.specs.Claim.{Ballot, stamped, received, voted, say}
use Rattle.log_chain.specs.Ends.{rising}
use Rattle.submission.specs.Trailer.{name, word, record_count, leader_count, distance, version}
use Rattle.log_chain.specs.Runs.{run, runs_from, runs, runs_after}
use Rattle.submission.specs.View.{Certificate, Commit, View, leads_of, leads, Slot, slot, certified, votes_of, stamp_of, receipts_of, slots}
use Rattle.submission.specs.Reading.{view, laid_out, ballot_size, ballot_at, signers_at, certificate_at, certificate_end, certificates, certificates_end, stamps_at, commit_at, commit_end, leaders_from, stamps_from, commit_from, commit_of}
use Rattle.log_chain.specs.Records.{record_size, records_of}
use Rattle.submission.specs.Validate.{sized, versioned, named, counted, quorate, commit_signers, masks, ordered, one_each, leading, within, genuine, slot_use, uses}

form : Form
form = version1 (replicate 16 7)

-- ---- the bytes

-- a trailer: H, L, four distances, version
trailer : ℕ → ℕ → List ℕ → ℕ → List ℕ
trailer H L distances v = replicate 16 7 ++ be 4 H ++ be 4 L ++ flat_map (be 4) distances ++ be 4 v

none_at_all : List ℕ
none_at_all = trailer 0 0 (0 ∷ 0 ∷ 0 ∷ 0 ∷ []) 1

-- 5
sizes : (sized (replicate 43 0) ≡ false) × (sized (replicate 44 0) ≡ true)
unfolding sized all
sizes = (refl, refl)

large : (s : List ℕ) → (length s ≡ 2097152 → sized s ≡ true) × (length s ≡ 2097153 → sized s ≡ false)
unfolding sized all
large s = ((λ e. rw e), (λ e. rw e))

-- 6, 7, 8
fields : (versioned none_at_all ≡ true) × (versioned (trailer 0 0 (0 ∷ 0 ∷ 0 ∷ 0 ∷ []) 2) ≡ false) × (versioned (trailer 0 0 (0 ∷ 0 ∷ 0 ∷ 0 ∷ []) 257) ≡ false)
    × (named (replicate 16 7) none_at_all ≡ true) × (named (replicate 15 7 ++ (8 ∷ [])) none_at_all ≡ false)
    × (counted (trailer 4096 64 (0 ∷ 0 ∷ 0 ∷ 0 ∷ []) 1) ≡ true) × (counted (trailer 4097 64 (0 ∷ 0 ∷ 0 ∷ 0 ∷ []) 1) ≡ false)
    × (counted (trailer 4096 65 (0 ∷ 0 ∷ 0 ∷ 0 ∷ []) 1) ≡ false)
unfolding none_at_all trailer versioned version named name counted record_count leader_count word all number_at number be same flat_map
fields = (refl, refl, refl, refl, refl, refl, refl, refl)

-- a record of 36 bytes: term and payload digest; a vote's fields, 46 bytes: candidate, term, last term, last index and last pointer. No two
-- fields have a byte in common
logged-one : Record
logged-one = record { term = 0x01020304; digest = 5 ∷ replicate 30 6 ++ (7 ∷ []) }

vote : Ballot
vote = record { candidate = 0x1011; term = 0x12131415; last_term = 0x16171819; last_index = 0x1a1b1c1d; last_pointer = 30 ∷ replicate 30 31 ++ (32 ∷ []) }

vote-bytes : List ℕ
vote-bytes = (16 ∷ 17 ∷ 18 ∷ 19 ∷ 20 ∷ 21 ∷ 22 ∷ 23 ∷ 24 ∷ 25 ∷ 26 ∷ 27 ∷ 28 ∷ 29 ∷ 30 ∷ []) ++ replicate 30 31 ++ (32 ∷ [])

-- one record, a leader certificate of 48 bytes with two signatures, a stamp, a commit certificate of 6 bytes with two signatures
parts : List ℕ
parts =
    (1 ∷ 2 ∷ 3 ∷ 4 ∷ 5 ∷ []) ++ replicate 30 6 ++ (7 ∷ []) ++ vote-bytes ++ be 2 3 ++ (10 ∷ 11 ∷ 12 ∷ []) ++ be 4 1 ++ be 2 5 ++ (13 ∷ 14 ∷ [])

laid : List ℕ → Bool
laid distances = laid_out 4 1 (parts ++ trailer 1 1 distances 1)

-- 9: 95 bytes of parts; each distance one off; no commit certificate where there are bytes for one; one more signature byte than ones
layouts : (laid (95 ∷ 59 ∷ 9 ∷ 8 ∷ []) ≡ true) × (laid (94 ∷ 59 ∷ 9 ∷ 8 ∷ []) ≡ false) × (laid (95 ∷ 60 ∷ 9 ∷ 8 ∷ []) ≡ false)
    × (laid (95 ∷ 59 ∷ 10 ∷ 8 ∷ []) ≡ false) × (laid (95 ∷ 59 ∷ 9 ∷ 7 ∷ []) ≡ false) × (laid (95 ∷ 59 ∷ 9 ∷ 0 ∷ []) ≡ false)
    × (laid (4294967295 ∷ 59 ∷ 9 ∷ 8 ∷ []) ≡ false)
    × (laid_out 4 1 (parts ++ (15 ∷ []) ++ trailer 1 1 (96 ∷ 60 ∷ 10 ∷ 9 ∷ []) 1) ≡ false)
    × (laid_out 4 1 (take 87 parts ++ trailer 1 1 (87 ∷ 51 ∷ 1 ∷ 0 ∷ []) 1) ≡ true)
    × (laid_out 4 1 none_at_all ≡ true) × (laid_out 4 1 (trailer 4096 0 (0 ∷ 0 ∷ 0 ∷ 0 ∷ []) 1) ≡ false)
unfolding laid parts vote-bytes form version1 none_at_all trailer laid_out leaders_from stamps_from commit_from commit_end certificates_end certificate_end signers_at record_size ballot_size
    distance record_count leader_count word all number_at number be flat_map ones ones_in
layouts = (refl, refl, refl, refl, refl, refl, refl, refl, refl, refl, refl)

-- what is read: the record, the ballot's fields, whose signature each byte is
reading : (slots 1 (view 4 1 (parts ++ trailer 1 1 (95 ∷ 59 ∷ 9 ∷ 8 ∷ []) 1))
    ≡ slot 1 (voted vote) (10 ∷ []) ∷ slot 2 (voted vote) (11 ∷ []) ∷ slot 0x1011 (stamped 0x01020304 (logged-one ∷ [])) (12 ∷ [])
    ∷ slot 1 (received 0x01020304 (logged-one ∷ [])) (13 ∷ []) ∷ slot 3 (received 0x01020304 (logged-one ∷ [])) (14 ∷ []) ∷ [])
unfolding slots view parts logged-one vote vote-bytes form version1 trailer leaders_from stamps_from commit_from commit_of commit_at certificates_end certificate_end certificates certificate_at ballot_at
    stamps_at signers_at record_size ballot_size records_of leads leads_of runs runs_after runs_from run votes_of stamp_of receipts_of certified slot replicas_of replicas_from last_term term_from
    distance record_count leader_count word number_at number be flat_map ones ones_in
reading = refl

-- ---- what it says

-- 10: fewer than two of three; bit 4 of three
quorums : (quorate 3 0b001 ≡ false) × (quorate 3 0b101 ≡ true) × (quorate 3 0b111 ≡ true) × (quorate 3 0b1011 ≡ false) × (quorate 9 0b111100000 ≡ false)
    × (quorate 9 0b111110000 ≡ true)
unfolding quorate quorum all ones ones_in
quorums = (refl, refl, refl, refl, refl, refl)

of : ℕ → Record
of t = record { term = t; digest = replicate 32 0 }

logged : List Record → List Certificate → View
logged log leaders = record { log = log; leaders = leaders; stamps = []; commit = none }

-- the signers of every certificate are asked, the commit's too
every_mask : (masks (record { log = []; leaders = record { ballot = ballot_at 4 [] 0; signers = 5; signatures = [] } ∷ []; stamps = []; commit = some (record { index = 1; signers = 6; signatures = [] }) })
    ≡ 5 ∷ 6 ∷ [])
unfolding masks commit_signers
every_mask = refl

-- 11: terms above 0 that do not fall
orders : (ordered (logged (of 1 ∷ of 1 ∷ of 3 ∷ []) []) ≡ true) × (ordered (logged (of 0 ∷ []) []) ≡ false) × (ordered (logged (of 2 ∷ of 1 ∷ []) []) ≡ false)
    × (ordered (logged [] []) ≡ true)
unfolding ordered logged of rising
orders = (refl, refl, refl, refl)

certificate : Ballot → ℕ → Certificate
certificate b mask = record { ballot = b; signers = mask; signatures = [] }

ballot : ℕ → ℕ → ℕ → ℕ → List ℕ → Ballot
ballot candidate t u j p = record { candidate = candidate; term = t; last_term = u; last_index = j; last_pointer = p }

-- 12
counts : (let c = certificate (ballot 1 1 0 0 []) 3 in (one_each (logged (of 1 ∷ of 1 ∷ of 3 ∷ []) (c ∷ c ∷ [])) ≡ true)
    × (one_each (logged (of 1 ∷ of 1 ∷ of 3 ∷ []) (c ∷ [])) ≡ false) × (one_each (logged [] (c ∷ [])) ≡ false))
unfolding one_each logged runs runs_after runs_from run of last_term term_from
counts = (refl, refl, refl)

-- 13: the first term of a log, of three replicas, signers 1 and 2
leads_with : ℕ → ℕ → ℕ → ℕ → List ℕ → Bool
leads_with candidate t u j p =
    leading form 3 (record { certificate = certificate (ballot candidate t u j p) 3; term = run [] (of 4 ∷ []); stamp = [] })

leaders : (leads_with 2 4 0 0 (replicate 32 0) ≡ true) × (leads_with 2 5 0 0 (replicate 32 0) ≡ false) × (leads_with 2 4 1 0 (replicate 32 0) ≡ false)
    × (leads_with 2 4 0 1 (replicate 32 0) ≡ false) × (leads_with 2 4 0 0 (replicate 31 0 ++ (1 ∷ [])) ≡ false)
    × (leads_with 0 4 0 0 (replicate 32 0) ≡ false) × (leads_with 3 4 0 0 (replicate 32 0) ≡ false) × (leads_with 4 4 0 0 (replicate 32 0) ≡ false)
    × (leads_with 17 4 0 0 (replicate 32 0) ≡ false)
unfolding leads_with leading certificate ballot run of all same pointer pointer_from last_term term_from signer form version1
leaders = (refl, refl, refl, refl, refl, refl, refl, refl, refl)

-- and a later term: record j - 1's term and pointer
later : leading form 3 (record { certificate = certificate (ballot 1 4 3 1 (pointer form (of 3 ∷ []))) 3; term = run (of 3 ∷ []) (of 3 ∷ of 4 ∷ []); stamp = [] }) ≡ true
unfolding leading certificate ballot run of all last_term term_from signer
later = rw (true_same (pointer form (of 3 ∷ [])))

-- 14: a log of two records
commits : (let at : ℕ → Option Commit = λ i. some (record { index = i; signers = 3; signatures = [] }) in
    (within none 2 ≡ true) × (within (at 0) 2 ≡ false) × (within (at 1) 2 ≡ true) × (within (at 2) 2 ≡ true) × (within (at 3) 2 ≡ false))
unfolding within all
commits = (refl, refl, refl, refl, refl)

-- 15: no signature is good under what is no key; the empty log has none to be bad
signatures : (genuine form [] (slot 1 (stamped 4 (of 4 ∷ [])) (replicate 1292 0)) ≡ false) × (every (genuine form []) (slots 1 (logged [] [])) ≡ true)
unfolding genuine good key_of slot every slots logged leads leads_of runs runs_after receipts_of flat_map
signatures = (refl, refl)

-- ---- the uses of leaves

-- the leaf is the signature's first four bytes, the message what it stands on
use_of-slot : (let c = stamped 4 (of 4 ∷ []) in slot_use form [] (slot 2 c (0 ∷ 0 ∷ 1 ∷ 2 ∷ 9 ∷ [])) ≡ use_of 258 (say form c))
unfolding slot_use slot use_of leaf_of number_at number
use_of-slot = refl

-- those of one replica, in their order
uses_of_one : (let at : ℕ → ℕ → Slot = λ k q. slot k (stamped 4 []) (q ∷ []) in
    uses (λ (x : Slot). use_of 0 x.signature) 2 (at 1 5 ∷ at 2 6 ∷ at 3 7 ∷ at 2 8 ∷ []) ≡ use_of 0 (6 ∷ []) ∷ use_of 0 (8 ∷ []) ∷ [])
unfolding uses slot use_of
uses_of_one = refl
