-- Worked examples of part 4: its numbers and its place, and none where the fourth distance is 0.
-- Assumes nothing.
use mathlib.Core.Path.{◌≡◌, refl}
use mathlib.Core.List.{List, [], ◌∷◌, ◌++◌, flat_map}
use Rattle.std.specs.Prelude.{Some, None}
use Prim.Native.Nat.{ℕ}
use lib.Count.{ones, ones_in}
use lib.ListN.{replicate}
use Rattle.words.specs.BigEndian.{number, be, number_at}
use Rattle.submission.specs.Trailer.{word, record_count, leader_count, distance}
use Rattle.log_chain.specs.Records.{record_size}
use Rattle.submission.specs.Reading.{ballot_size, signers_at, certificate_end, certificates_end, commit_at, leaders_from, stamps_from, commit_from}
use Rattle.submission_parts.specs.Reader.{commit_numbers_at}
use Rattle.submission_parts.specs.Commits.{commit_part}

-- a trailer of no records: L, the fourth distance
trailer : ℕ → ℕ → List ℕ
trailer L back = replicate 16 7 ++ be 4 0 ++ be 4 L ++ flat_map (be 4) (0 ∷ 0 ∷ 0 ∷ back ∷ []) ++ be 4 1

-- a leader certificate of 48 bytes with two signatures, a stamp, a commit certificate of 6 bytes with two signatures
parts : List ℕ
parts = replicate 46 2 ++ be 2 3 ++ (10 ∷ 11 ∷ 12 ∷ []) ++ be 4 1 ++ be 2 5 ++ (13 ∷ 14 ∷ [])

commits : (commit_part 4 1 (parts ++ trailer 1 8) ≡ Some (record { index = 1; signers = 5 }, 51)) × (commit_part 4 1 (trailer 0 0) ≡ None)
unfolding parts trailer commit_part commit_numbers_at leaders_from stamps_from commit_from certificates_end certificate_end commit_at signers_at record_size ballot_size distance record_count leader_count
    word number_at number be flat_map ones ones_in
commits = (refl, refl)
