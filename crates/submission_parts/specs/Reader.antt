-- What a reader of a certificate gives (document 01, "A submission, read from its trailer": "either its
-- fields with the next place, or a refusal"): a certificate is refused, number 9, where it does not lie
-- before an end.
use Rattle.std.specs.Prelude.{cond, List, [], ◌∷◌, ℕ, ◌+◌, leb, Option, Some, None}
use Rattle.submission_parts.specs.declared.Certificate.{Certificate}
use Rattle.submission_parts.specs.declared.Commit.{Commit}
use Rattle.refusal.specs.Checks.{check, refusal}
pub use Rattle.roster.specs.Sizes.{signature_most}
use Rattle.submission.specs.Reading.{ballot_size, ballot_at, signers_at, certificate_end, certificates_end}
use Rattle.submission.specs.Reading.{commit_at, commit_end}

-- the bytes of a leader certificate before its signatures
abbrev pub fields_size : ℕ → ℕ
fields_size w = ballot_size w + 2

-- where the last pointer stands among a vote's fields, after the last index
abbrev pub last_pointer_place : ℕ → ℕ
last_pointer_place w = 2 + w + w + 4

-- the numbers of the certificate at a place
unfoldable pub numbers_at : ℕ → List ℕ → ℕ → Certificate
numbers_at w s at =
    let b = ballot_at w s at in
    record {
      candidate = b.candidate;
      term = b.term;
      last_term = b.last_term;
      last_index = b.last_index;
      signers = signers_at s (at + ballot_size w);
    }

unfoldable pub commit_numbers_at : List ℕ → ℕ → Commit
commit_numbers_at s at = let c = commit_at s at in record { index = c.index; signers = c.signers }

-- document 01's number of a reader's answer: 0 for what was read, 9 for a refusal
unfoldable pub answer_number : {Answer : Type 0} → Option Answer → ℕ
answer_number (Some read) = 0
answer_number None = 9

-- 9: what ends at a place ends by an end
unfoldable pub end_number : ℕ → ℕ → ℕ
end_number place end = refusal (check 9 (leb place end) ∷ [])

module _ (w S : ℕ) (s : List ℕ) where
  -- the leader certificate at a place
  unfoldable pub reading : ℕ → ℕ → Option (Certificate × ℕ)
  reading at end =
      let next = certificate_end w S s at in
      cond (leb next end) (Some (numbers_at w s at, next)) None

  -- so many leader certificates, one after the other
  unfoldable pub place_after : ℕ → ℕ → ℕ → Option ℕ
  place_after count at end =
      let next = certificates_end w S s count at in cond (leb next end) (Some next) None

module _ (S : ℕ) (s : List ℕ) where
  -- the commit certificate at a place
  unfoldable pub commit_reading : ℕ → ℕ → Option (Commit × ℕ)
  commit_reading at end =
      let next = commit_end S s at in
      cond (leb next end) (Some (commit_numbers_at s at, next)) None
