-- What is written is read back: a field and a number at a place, the records, a vote's fields, the leader certificates.
-- Assumes nothing.
use mathlib.Core.Path.{◌≡◌, refl, sym, ap, ◌∙◌}
use mathlib.Core.List.{List, [], ◌∷◌, ◌++◌, map, flat_map, append_assoc}
use Prim.Native.Nat.{ℕ, ◌+◌, ◌*◌, ◌^◌, ◌≤◌, ◌<◌}
use native.Mathlib.Omega.{arith}
use lib.Count.{ones}
use lib.ListN.{length, take, drop, length-append}
use lib.Seq.{drop-drop, take_at, drop_at, length-take-le}
use Rattle.words.specs.BigEndian.{be, number, number_at}
use Rattle.words.proofs.Laws.{length-be, number-be}
use Rattle.log_chain.specs.Log.{Form, Record}
use Rattle.log_chain.specs.Records.{record_size, records_of}
use Rattle.log_chain.specs.Claim.{Ballot, ballot_bytes}
use Rattle.log_chain.proofs.Fits.{RecordFits, LogFits, more, BallotFits}
use Rattle.submission.specs.View.{Certificate}
use Rattle.submission.specs.Reading.{ballot_size, ballot_at, signers_at, certificate_at, certificate_end, certificates, certificates_end}
use Rattle.submission_encoding.specs.Encoding.{record_bytes, log_bytes, signed_bytes, certificate_bytes, leaders_bytes}

-- ---- what stands at a place

-- the first field
pub field_here : (s : List ℕ) (at : ℕ) (xs rest : List ℕ) (k : ℕ) → length xs ≡ k → drop at s ≡ xs ++ rest → take k (drop at s) ≡ xs
field_here s at xs rest k h e = ap (take k) e ∙ take_at xs rest k h

-- after the first field
pub next_field : (s : List ℕ) (at : ℕ) (xs rest : List ℕ) (k : ℕ) → length xs ≡ k → drop at s ≡ xs ++ rest → drop (at + k) s ≡ rest
next_field s at xs rest k h e = sym (drop-drop k at s) ∙ ap (drop k) e ∙ drop_at xs rest k h

pub number_here : (s : List ℕ) (at k n : ℕ) (rest : List ℕ) → n < 256 ^ k → drop at s ≡ be k n ++ rest → number_at k s at ≡ n
unfolding number_at
number_here s at k n rest h e = ap number (field_here s at (be k n) rest k (length-be k n) e) ∙ number-be k n h

-- ---- the records

module _ (form : Form) where
  record-first : (r : Record) (log : List Record) (rest : List ℕ)
      → log_bytes form (r ∷ log) ++ rest ≡ be form.term_bytes r.term ++ (r.digest ++ (log_bytes form log ++ rest))
  unfolding log_bytes flat_map record_bytes
  record-first r log rest =
      append_assoc (be form.term_bytes r.term ++ r.digest) (log_bytes form log) rest
      ∙ append_assoc (be form.term_bytes r.term) r.digest (log_bytes form log ++ rest)

  record-read : (r : Record) (s rest : List ℕ) → RecordFits form r → s ≡ be form.term_bytes r.term ++ (r.digest ++ rest)
      → (record { term = number (take form.term_bytes s); digest = take 32 (drop form.term_bytes s) } ≡ r)
      × (drop (form.term_bytes + 32) s ≡ rest)
  unfolding number_at
  record-read r s rest fits e =
      let w = form.term_bytes in
      let term : number (take w s) ≡ r.term = number_here s 0 w r.term (r.digest ++ rest) fits.term e in
      let there : drop w s ≡ r.digest ++ rest = ap (drop w) e ∙ drop_at (be w r.term) (r.digest ++ rest) w (length-be w r.term) in
      let digest = field_here s w r.digest rest 32 fits.digest there in
      ((λ i. record { term = term i; digest = digest i }), next_field s w r.digest rest 32 fits.digest there)

  pub records-read : (log : List Record) (s rest : List ℕ) → LogFits form log → s ≡ log_bytes form log ++ rest
      → records_of form.term_bytes (length log) s ≡ log
  unfolding records_of record_size
  records-read [] s rest fits e = refl
  records-read (r ∷ log) s rest (more f fs) e =
      let one = record-read r s (log_bytes form log ++ rest) f (e ∙ record-first r log rest) in
      λ i. one.0 i ∷ records-read log (drop (form.term_bytes + 32) s) rest fs one.1 i

  -- ---- a vote's fields

  module _ (b : Ballot) (fits : BallotFits form b) (s : List ℕ) (at : ℕ) (rest : List ℕ) (e : drop at s ≡ ballot_bytes form b ++ rest) where
    ballot-read : (ballot_at form.term_bytes s at ≡ b) × (drop (at + ballot_size form.term_bytes) s ≡ rest)
    unfolding ballot_at ballot_bytes ballot_size
    ballot-read =
        let w = form.term_bytes in
        let C = be 2 b.candidate in
        let T = be w b.term in
        let U = be w b.last_term in
        let I = be 4 b.last_index in
        let P = b.last_pointer in
        let e0 : drop at s ≡ C ++ (T ++ (U ++ (I ++ (P ++ rest)))) = e ∙ simp append_assoc in
        let e1 = next_field s at C (T ++ (U ++ (I ++ (P ++ rest)))) 2 (length-be 2 b.candidate) e0 in
        let e2 = next_field s (at + 2) T (U ++ (I ++ (P ++ rest))) w (length-be w b.term) e1 in
        let e3 = next_field s (at + 2 + w) U (I ++ (P ++ rest)) w (length-be w b.last_term) e2 in
        let e4 = next_field s (at + 2 + w + w) I (P ++ rest) 4 (length-be 4 b.last_index) e3 in
        let e5 = next_field s (at + 2 + w + w + 4) P rest 32 fits.last_pointer e4 in
        let candidate = number_here s at 2 b.candidate _ fits.candidate e0 in
        let term = number_here s (at + 2) w b.term _ fits.term e1 in
        let last_term = number_here s (at + 2 + w) w b.last_term _ fits.last_term e2 in
        let last_index = number_here s (at + 2 + w + w) 4 b.last_index _ fits.last_index e3 in
        let last_pointer = field_here s (at + 2 + w + w + 4) P rest 32 fits.last_pointer e4 in
        let place : at + 2 + w + w + 4 + 32 ≡ at + (2 + w + w + 4 + 32) = omega arith in (
          (λ i. record {
            candidate = candidate i;
            term = term i;
            last_term = last_term i;
            last_index = last_index i;
            last_pointer = last_pointer i;
          }),
          rw place at e5,
        )

-- ---- signers and their signatures

module _ (S : ℕ) where
  pub signed-read : (signers : ℕ) (signatures : List ℕ) → signers < 256 ^ 2 → S * ones signers ≤ length signatures
      → (s : List ℕ) (at : ℕ) (rest : List ℕ) → drop at s ≡ signed_bytes S signers signatures ++ rest
      → (signers_at s at ≡ signers) × (take (S * ones signers) (drop (at + 2) s) ≡ take (S * ones signers) signatures)
      × (drop (at + 2 + S * ones signers) s ≡ rest)
  unfolding signed_bytes signers_at
  signed-read signers signatures fits long s at rest e =
      let own = take (S * ones signers) signatures in
      let size : length own ≡ S * ones signers = length-take-le (S * ones signers) signatures long in
      let e0 : drop at s ≡ be 2 signers ++ (own ++ rest) = e ∙ append_assoc (be 2 signers) own rest in
      let e1 = next_field s at (be 2 signers) (own ++ rest) 2 (length-be 2 signers) e0 in (
        number_here s at 2 signers (own ++ rest) fits e0,
        field_here s (at + 2) own rest (S * ones signers) size e1,
        next_field s (at + 2) own rest (S * ones signers) size e1,
      )

  pub signed-length : (signers : ℕ) (signatures : List ℕ) → S * ones signers ≤ length signatures
      → length (signed_bytes S signers signatures) ≡ 2 + S * ones signers
  unfolding signed_bytes
  signed-length signers signatures long = rw (length-append, length-be, length-take-le (S * ones signers) signatures long)

  -- a certificate with its own signatures alone: one that was read has all bytes from the first signature on
  unfoldable pub trimmed : Certificate → Certificate
  trimmed c = record { ballot = c.ballot; signers = c.signers; signatures = take (S * ones c.signers) c.signatures }

-- ---- the leader certificates

module _ (form : Form) (S : ℕ) where
  pub record CertificateFits (c : Certificate) : Type 0 where
    pub ballot : BallotFits form c.ballot
    pub signers : c.signers < 256 ^ 2
    pub signatures : S * ones c.signers ≤ length c.signatures

  pub data AllFit : List Certificate → Type 0 where
    none-fit : AllFit []
    more-fit : {c : Certificate} {cs : List Certificate} → CertificateFits c → AllFit cs → AllFit (c ∷ cs)

  record Back (s : List ℕ) (at : ℕ) (c : Certificate) (rest : List ℕ) : Type 0 where
    same : trimmed S (certificate_at form.term_bytes s at) ≡ trimmed S c
    end : certificate_end form.term_bytes S s at ≡ at + length (certificate_bytes S form c)
    after : drop (certificate_end form.term_bytes S s at) s ≡ rest

  pub certificate-length : (c : Certificate) → CertificateFits c
      → length (certificate_bytes S form c) ≡ ballot_size form.term_bytes + 2 + S * ones c.signers
  unfolding certificate_bytes ballot_bytes ballot_size
  certificate-length c fits =
      simp (length-append, length-be, fits.ballot.last_pointer, signed-length S c.signers c.signatures fits.signatures)
      (omega arith)

  certificate-read : (c : Certificate) → CertificateFits c → (s : List ℕ) (at : ℕ) (rest : List ℕ)
      → drop at s ≡ certificate_bytes S form c ++ rest → Back s at c rest
  unfolding certificate_bytes certificate_at certificate_end trimmed
  certificate-read c fits s at rest e =
      let w = form.term_bytes in
      let fields = ballot_bytes form c.ballot in
      let own = signed_bytes S c.signers c.signatures in
      let ballot = ballot-read form c.ballot fits.ballot s at (own ++ rest) (e ∙ append_assoc fields own rest) in
      let signing = signed-read S c.signers c.signatures fits.signers fits.signatures s (at + ballot_size w) rest ballot.1 in
      let end_is : certificate_end w S s at ≡ at + ballot_size w + 2 + S * ones c.signers =
      ap (λ m. at + ballot_size w + 2 + S * ones m) signing.0 in
      let signatures = ap (λ m. take (S * ones m) (drop (at + ballot_size w + 2) s)) signing.0 ∙ signing.1 in
      record {
        same = λ i. record { ballot = ballot.0 i; signers = signing.0 i; signatures = signatures i };
        end = end_is ∙ rw (certificate-length c fits) (omega arith);
        after = ap (λ m. drop m s) end_is ∙ signing.2;
      }

  pub record BackAll (s : List ℕ) (at : ℕ) (cs : List Certificate) (rest : List ℕ) : Type 0 where
    pub same : map (trimmed S) (certificates form.term_bytes S s (length cs) at) ≡ map (trimmed S) cs
    pub end : certificates_end form.term_bytes S s (length cs) at ≡ at + length (leaders_bytes S form cs)
    pub after : drop (certificates_end form.term_bytes S s (length cs) at) s ≡ rest

  pub certificates-read : (cs : List Certificate) → AllFit cs → (s : List ℕ) (at : ℕ) (rest : List ℕ)
      → drop at s ≡ leaders_bytes S form cs ++ rest → BackAll s at cs rest
  unfolding leaders_bytes flat_map certificates certificates_end
  certificates-read [] none-fit s at rest e = record { same = refl; end = omega arith; after = e }
  certificates-read (c ∷ cs) (more-fit f fs) s at rest e =
      let others = leaders_bytes S form cs in
      let one = certificate-read c f s at (others ++ rest) (e ∙ append_assoc (certificate_bytes S form c) others rest) in
      let later = certificates-read cs fs s (certificate_end form.term_bytes S s at) rest one.after in
      record {
        same = λ i. one.same i ∷ later.same i;
        end = later.end ∙ rw (one.end, length-append) (omega arith);
        after = later.after;
      }
