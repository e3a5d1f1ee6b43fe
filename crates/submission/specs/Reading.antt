-- The parts of a submission and where they stand (document 01, "A submission, read from its trailer"), over
-- the term's width w and the signature's length S: each begins where the one before ends.
use Rattle.std.specs.Prelude.{Bool, true, cond, List, [], ◌∷◌, ℕ, zero, suc, ◌+◌, ◌*◌, eqb, take, drop}
use Rattle.std.proofs.Math.Option.{Option, some, none}
use Rattle.std.specs.Int.Count.{ones}
use Rattle.words.specs.BigEndian.{number_at}
use Rattle.refusal.specs.Checks.{all}
use Rattle.log_chain.specs.Records.{record_size, records_of}
use Rattle.log_chain.specs.Claim.{Ballot}
use Rattle.submission.specs.Trailer.{trailer_at, record_count, leader_count, distance}
use Rattle.submission.specs.View.{Certificate, Commit, View}

-- part 1 is the records (`records_of`)

-- ---- part 2

-- a vote's fields: candidate, term, last term, last index, last pointer
unfoldable pub ballot_size : ℕ → ℕ
ballot_size w = 2 + w + w + 4 + 32

unfoldable pub ballot_at : ℕ → List ℕ → ℕ → Ballot
ballot_at w s at =
    record {
      candidate = number_at 2 s at;
      term = number_at w s (at + 2);
      last_term = number_at w s (at + 2 + w);
      last_index = number_at 4 s (at + 2 + w + w);
      last_pointer = take 32 (drop (at + 2 + w + w + 4) s);
    }

unfoldable pub signers_at : List ℕ → ℕ → ℕ
signers_at s at = number_at 2 s at

-- the certificate at a place: the fields, the signers, the signatures
unfoldable pub certificate_at : ℕ → List ℕ → ℕ → Certificate
certificate_at w s at =
    let end = at + ballot_size w in
    record { ballot = ballot_at w s at; signers = signers_at s end; signatures = drop (end + 2) s }

-- ---- part 3

unfoldable pub stamps_at : ℕ → List ℕ → ℕ → ℕ → List (List ℕ)
stamps_at S s zero at = []
stamps_at S s (suc count) at = take S (drop at s) ∷ stamps_at S s count (at + S)

-- ---- part 4

unfoldable pub commit_at : List ℕ → ℕ → Commit
commit_at s at =
    record { index = number_at 4 s at; signers = signers_at s (at + 4); signatures = drop (at + 6) s }

-- the place after it: one signature for each of its ones among all sixteen bits
unfoldable pub commit_end : ℕ → List ℕ → ℕ → ℕ
commit_end S s at = at + 6 + S * ones (signers_at s (at + 4))

-- ---- where the parts stand

module _ (w S : ℕ) (s : List ℕ) where
  -- the place after the leader certificate at a place, likewise
  unfoldable pub certificate_end : ℕ → ℕ
  certificate_end at = let end = at + ballot_size w in end + 2 + S * ones (signers_at s end)

  unfoldable pub certificates : ℕ → ℕ → List Certificate
  certificates zero at = []
  certificates (suc count) at = certificate_at w s at ∷ certificates count (certificate_end at)

  unfoldable pub certificates_end : ℕ → ℕ → ℕ
  certificates_end zero at = at
  certificates_end (suc count) at = certificates_end count (certificate_end at)

  unfoldable pub leaders_from : ℕ
  leaders_from = record_size w * record_count s

  unfoldable pub stamps_from : ℕ
  stamps_from = certificates_end (leader_count s) leaders_from

  unfoldable pub commit_from : ℕ
  commit_from = stamps_from + leader_count s * S

  -- no commit certificate where the fourth distance is 0
  unfoldable pub commit_of : Option Commit
  commit_of = cond (eqb (distance s 4) 0) none (some (commit_at s commit_from))

  unfoldable pub view : View
  view =
      record {
        log = records_of w (record_count s) s;
        leaders = certificates (leader_count s) leaders_from;
        stamps = stamps_at S s (leader_count s) stamps_from;
        commit = commit_of;
      }

  -- 9: each part begins where its distance says, and the last ends at the trailer. Without a commit
  -- certificate part 3 ends there
  unfoldable pub laid_out : Bool
  laid_out =
      let T = trailer_at s in
      all (
      eqb (distance s 1) T ∷ eqb (leaders_from + distance s 2) T ∷ eqb (stamps_from + distance s 3) T ∷
      eqb (commit_from + distance s 4) T
      ∷ cond (eqb (distance s 4) 0) true (eqb (commit_end S s commit_from) T)
      ∷ []
      )
