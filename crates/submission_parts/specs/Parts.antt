-- Check 9 from a part on (document 01, "A submission, read from its trailer"), and what the checks before it
-- leave: of a submission with terms of w bytes and signatures of S.
use Rattle.std.specs.Prelude.{Bool, true, cond, List, [], ◌∷◌, ℕ, ◌+◌, ◌*◌, ◌≤◌, eqb, length}
use Rattle.words.specs.Widths.{width_most}
use Rattle.submission.specs.Trailer.{trailer_size, trailer_at, record_count, leader_count, distance}
use Rattle.submission.specs.Reading.{certificates_end, commit_end}
use Rattle.submission.specs.Validate.{submission_most, record_most, leader_most}
use Rattle.submission_parts.specs.Reader.{signature_most}

-- what checks 5 and 8 leave of a submission, and a roster's signatures
pub record Bounds (w S : ℕ) (s : List ℕ) : Type 0 where
  pub long : trailer_size ≤ length s
  pub short : length s ≤ submission_most
  pub records : record_count s ≤ record_most
  pub leaders : leader_count s ≤ leader_most
  pub width : w ≤ width_most
  pub signature : S ≤ signature_most

-- ---- the tests of check 9, from a part on

module _ (S : ℕ) (s : List ℕ) where
  -- part 4 begins at a place
  unfoldable pub commit_tests : ℕ → List Bool
  commit_tests at =
      let T = trailer_at s in
      eqb (at + distance s 4) T ∷ cond (eqb (distance s 4) 0) true (eqb (commit_end S s at) T) ∷ []

module _ (w S : ℕ) (s : List ℕ) where
  -- part 2 begins at a place, and part 3 where it ends
  unfoldable pub leader_tests : ℕ → List Bool
  leader_tests at =
      let L = leader_count s in
      let stamps = certificates_end w S s L at in
      eqb (stamps + distance s 3) (trailer_at s) ∷ commit_tests S s (stamps + L * S)
