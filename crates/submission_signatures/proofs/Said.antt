-- The bytes that the code puts together are those of the claim: a statement is read from its buffer as it was written, a field's bytes are
-- those of the number read from them, and the parts of a vote stand one after the other.
-- Assumes nothing.
use mathlib.Core.Path.{◌≡◌, sym, ap, ◌∙◌}
use mathlib.Core.List.{List, [], ◌∷◌, ◌++◌}
use mathlib.Core.Option.{some}
use Prim.Native.Nat.{ℕ, ◌+◌, ◌≤◌}
use native.Mathlib.Nat.{add_assoc}
use native.Mathlib.Omega.{arith}
use lib.ListN.{length, take, drop, length-drop}
use lib.Seq.{length-take-le, take-add, drop-drop}
use Rattle.words.specs.BigEndian.{be, number, number_at}
use Rattle.words.proofs.Bytes.{Bytes}
use Rattle.words.proofs.Laws.{bytes_take, bytes_drop, be-number}
use Rattle.refusal.specs.Checks.{every}
use Rattle.roster.specs.Roster.{cluster}
use Rattle.roster.specs.Masks.{replicas_of}
use Rattle.log_chain.specs.Log.{with_terms, pointer, last_term}
use Rattle.log_chain.specs.Claim.{voted, say, ballot_bytes}
use Rattle.log_chain.specs.Sizes.{place_statement}
use Rattle.log_chain.proofs.Said.{receipt-said}
use Rattle.submission.specs.View.{receipts_of}
use Rattle.log_chain.specs.Records.{records_of}
use Rattle.submission.specs.Reading.{ballot_size, ballot_at, signers_at, certificate_at, commit_at}
use Rattle.submission.specs.Validate.{genuine}
use Rattle.submission_slots.specs.Signatures.{good_all}
use Rattle.submission_signatures.specs.Votes.{ballots}
use Rattle.log_chain.proofs.Records.{length-records}
use Rattle.log_terms.proofs.Records.{take-records}
use Rattle.submission_slots.proofs.Signed.{good_all-certified}

-- ---- a vote

-- a field's bytes
field_bytes : (w : ℕ) (s : List ℕ) (at : ℕ) → Bytes s → at + w ≤ length s → be w (number_at w s at) ≡ take w (drop at s)
unfolding number_at
field_bytes w s at b h =
    let long : length (take w (drop at s)) ≡ w = length-take-le w (drop at s) (rw length-drop (omega arith)) in
    ap (λ (n : ℕ). be n (number (take w (drop at s)))) (sym long) ∙ be-number (bytes_take w (drop at s) (bytes_drop at s b))

-- two parts that stand one after the other
joined : (n m : ℕ) (s : List ℕ) (at : ℕ) → take n (drop at s) ++ take m (drop (at + n) s) ≡ take (n + m) (drop at s)
joined n m s at = rw (take-add, drop-drop)

pub vote_said : (roster s : List ℕ) (w at : ℕ) → Bytes s → at + ballot_size w ≤ length s
    → 3 ∷ cluster roster ++ take (ballot_size w) (drop at s) ≡ say (with_terms w (cluster roster)) (voted (ballot_at w s at))
unfolding say ballot_bytes ballot_at ballot_size
vote_said roster s w at b h =
    let fields : be 2 (number_at 2 s at) ++ be w (number_at w s (at + 2)) ++ be w (number_at w s (at + 2 + w)) ++ be 4 (number_at 4 s (at + 2 + w + w))
    ++ take 32 (drop (at + 2 + w + w + 4) s) ≡ take (2 + w + w + 4 + 32) (drop at s) =
    rw (
      field_bytes 2 s at b (omega arith),
      field_bytes w s (at + 2) b (omega arith),
      field_bytes w s (at + 2 + w) b (omega arith),
      field_bytes 4 s (at + 2 + w + w) b (omega arith),
      joined 2 w s at,
      add_assoc at 2 w,
      joined (2 + w) w s at,
      add_assoc at (2 + w) w,
      joined (2 + w + w) 4 s at,
      add_assoc at (2 + w + w) 4,
      joined (2 + w + w + 4) 32 s at,
    ) in
    rw fields

-- the signatures on it are the certificate's votes
pub vote-slots : (roster s : List ℕ) (w S at : ℕ) → Bytes s → at + ballot_size w ≤ length s
    → good_all roster (3 ∷ cluster roster ++ take (ballot_size w) (drop at s)) S (replicas_of (number_at 2 s (at + ballot_size w))) (drop (at + ballot_size w + 2) s)
    ≡ every (genuine (with_terms w (cluster roster)) roster) (ballots S (certificate_at w s at))
unfolding ballots certificate_at signers_at
vote-slots roster s w S at b h = rw (vote_said roster s w at b h) (good_all-certified (with_terms w (cluster roster)) roster S _ _ _)

-- ---- a receipt

-- the signatures on a receipt's statement are the commit certificate's
pub receipt-slots : (roster s : List ℕ) (w S at records : ℕ) (p : List ℕ) → number_at 4 s at ≤ records
    → p ≡ pointer (with_terms w []) (records_of w (number_at 4 s at) s)
    → good_all roster (place_statement 2 (cluster roster) w (last_term (records_of w (number_at 4 s at) s)) (number_at 4 s at) p) S
    (replicas_of (number_at 2 s (at + 4))) (drop (at + 6) s)
    ≡ every (genuine (with_terms w (cluster roster)) roster) (receipts_of S (some (commit_at s at)) (records_of w records s))
unfolding receipts_of commit_at signers_at
receipt-slots roster s w S at records p h pointed =
    let c = number_at 4 s at in
    rw (take-records w c records s h, receipt-said (cluster roster) w (records_of w c s) (last_term (records_of w c s)) c p (length-records w c s) pointed)
    (good_all-certified (with_terms w (cluster roster)) roster S _ _ _)
