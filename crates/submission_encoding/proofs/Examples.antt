-- Worked examples: the signers and signatures of some copies, every byte of a small submission, with and without a commit certificate, and
-- the length of the largest.
-- Signatures have one byte here, and a certificate has more bytes than its signers' signatures.
-- Assumes nothing.
use mathlib.Core.Path.{◌≡◌, refl}
use mathlib.Core.List.{List, [], ◌∷◌, ◌++◌, flat_map}
use mathlib.Core.Option.{Option, some, none}
use Prim.Native.Nat.{ℕ, ◌+◌}
use lib.Count.{ones, ones_in}
use lib.ListN.{replicate}
use Rattle.words.specs.BigEndian.{be}
use Rattle.roster.specs.Sizes.{signature_most}
use Rattle.log_chain.specs.Log.{version1, Record}
use Rattle.log_chain.specs.Claim.{Ballot, ballot_bytes}
use Rattle.log_chain.specs.Records.{record_size}
use Rattle.submission.specs.Trailer.{trailer_size}
use Rattle.submission.specs.View.{Certificate, Commit, View}
use Rattle.submission.specs.Reading.{ballot_size}
use Rattle.submission_encoding.specs.Encoding.{record_bytes, log_bytes, signed_bytes, certificate_bytes, leaders_bytes, stamps_bytes, commit_bytes, trailer_bytes, encode}
use Rattle.submission_encoding.specs.Copies.{bit_of, signers_of, signature_of, signatures_of}
use Rattle.submission_encoding.proofs.Sizes.{certificate_most, commit_most, parts_most}

-- replicas 1 and 3 of four
copies : (signers_of (some (8 ∷ 9 ∷ []) ∷ none ∷ some (6 ∷ 7 ∷ []) ∷ none ∷ []) ≡ 5)
    × (signatures_of (some (8 ∷ 9 ∷ []) ∷ none ∷ some (6 ∷ 7 ∷ []) ∷ none ∷ []) ≡ 8 ∷ 9 ∷ 6 ∷ 7 ∷ [])
unfolding bit_of signers_of signature_of signatures_of
copies = (refl, refl)

-- one record, one certificate of replicas 1 and 3, one stamp
logged : Record
logged = record { term = 0x01020304; digest = replicate 32 5 }

vote : Ballot
vote = record { candidate = 3; term = 0x01020304; last_term = 0; last_index = 0; last_pointer = replicate 32 0 }

leader : Certificate
leader = record { ballot = vote; signers = 5; signatures = 21 ∷ 23 ∷ 99 ∷ [] }

commit : Commit
commit = record { index = 1; signers = 6; signatures = 32 ∷ 33 ∷ 99 ∷ [] }

said : Option Commit → View
said o = record { log = logged ∷ []; leaders = leader ∷ []; stamps = (40 ∷ []) ∷ []; commit = o }

-- parts 1 to 3: 36, 50 and 1 bytes
front : List ℕ
front =
    1 ∷ 2 ∷ 3 ∷ 4 ∷ replicate 32 5 ++ (0 ∷ 3 ∷ 1 ∷ 2 ∷ 3 ∷ 4 ∷ replicate 8 0 ++ replicate 32 0 ++ (0 ∷ 5 ∷ 21 ∷ 23 ∷ [])) ++ (40 ∷ [])

-- the trailer: the name, and its numbers
words : List ℕ → List ℕ
words ns = replicate 16 7 ++ flat_map (be 4) ns

bytes : (encode 1 (version1 (replicate 16 7)) 1 (said (some commit))
    ≡ front ++ (0 ∷ 0 ∷ 0 ∷ 1 ∷ 0 ∷ 6 ∷ 32 ∷ 33 ∷ []) ++ words (1 ∷ 1 ∷ 95 ∷ 59 ∷ 9 ∷ 8 ∷ 1 ∷ []))
    × (encode 1 (version1 (replicate 16 7)) 2 (said none) ≡ front ++ words (1 ∷ 1 ∷ 87 ∷ 51 ∷ 1 ∷ 0 ∷ 2 ∷ []))
unfolding encode record_bytes log_bytes signed_bytes certificate_bytes leaders_bytes stamps_bytes commit_bytes trailer_bytes ballot_bytes be version1 flat_map logged vote leader commit
    said front words ones ones_in
bytes = (refl, refl)

-- the largest submission: nine replicas, and signatures of 1,932 bytes
largest : parts_most 4 signature_most 9 + trailer_size ≡ 1404446
unfolding parts_most certificate_most commit_most record_size ballot_size
largest = refl
