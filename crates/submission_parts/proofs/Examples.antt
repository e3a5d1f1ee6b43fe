-- Worked examples of the readers: the numbers of each certificate with the next place, and a refusal one byte earlier.
-- Assumes nothing.
use mathlib.Core.Path.{◌≡◌, refl}
use mathlib.Core.List.{List, [], ◌∷◌, ◌++◌}
use Rattle.std.specs.Prelude.{Some, None}
use Prim.Native.Nat.{ℕ}
use lib.Count.{ones, ones_in}
use lib.ListN.{replicate}
use Rattle.words.specs.BigEndian.{number, be, number_at}
use Rattle.submission.specs.Reading.{ballot_size, ballot_at, signers_at, certificate_end, certificates_end, commit_at, commit_end}
use Rattle.submission_parts.specs.Reader as reader

-- one record of 36 bytes, a leader certificate of 48 bytes with two signatures, a stamp, a commit certificate of 6 bytes with two signatures
parts : List ℕ
parts = replicate 36 1 ++ replicate 46 2 ++ be 2 3 ++ (10 ∷ 11 ∷ 12 ∷ []) ++ be 4 1 ++ be 2 5 ++ (13 ∷ 14 ∷ [])

-- what the readers give, at the certificate of the term and at the commit certificate: one byte less than it has is refused
readers : (reader.reading 4 1 parts 36 86 ≡ Some (record { candidate = 514; term = 33686018; last_term = 33686018; last_index = 33686018; signers = 3 }, 86))
    × (reader.reading 4 1 parts 36 85 ≡ None) × (reader.place_after 4 1 parts 1 36 95 ≡ Some 86) × (reader.place_after 4 1 parts 1 36 85 ≡ None)
    × (reader.commit_reading 1 parts 87 95 ≡ Some (record { index = 1; signers = 5 }, 95)) × (reader.commit_reading 1 parts 87 94 ≡ None)
unfolding parts reader.reading reader.place_after reader.commit_reading reader.numbers_at reader.commit_numbers_at
    commit_end certificates_end certificate_end ballot_at commit_at signers_at ballot_size number_at number be ones ones_in
readers = (refl, refl, refl, refl, refl, refl)
