-- The terms of a submission as they are read, one leader certificate after the other: the last record of a
-- term stands in the next leader certificate, as the last record before the next term; that of the last term
-- is the log's.
use Rattle.std.specs.Prelude.{List, [], ◌∷◌, ℕ, zero, suc, ◌+◌}
use Rattle.submission.specs.Trailer.{record_count, leader_count}
use Rattle.submission.specs.Reading.{ballot_size, ballot_at, signers_at, certificate_end, leaders_from}
use Rattle.forensics_charges.specs.declared.Request.{Request}
use Rattle.forensics_charges.specs.declared.Tenure.{Tenure}

module _ (w : ℕ) (s : List ℕ) where
  -- the last record of the term before a place, with so many certificates from there on
  unfoldable pub end_at : ℕ → ℕ → ℕ
  end_at zero next = record_count s
  end_at (suc later) next = (ballot_at w s next).last_index

  -- the tenure of the certificate at a place that ends at another, with so many after it
  unfoldable pub tenure_at : ℕ → ℕ → ℕ → Tenure
  tenure_at later at next =
      let b = ballot_at w s at in
      let asked : Request =
      record {
        candidate = b.candidate;
        last_term = b.last_term;
        last_index = b.last_index;
        last_pointer = b.last_pointer;
      } in
      record {
        term = b.term;
        request = asked;
        signers = signers_at s (at + ballot_size w);
        end = end_at later next;
      }

-- S is the bytes of a signature
module _ (w S : ℕ) (s : List ℕ) where
  -- those of so many certificates from a place on
  unfoldable pub tenures_at : ℕ → ℕ → List Tenure
  tenures_at zero at = []
  tenures_at (suc later) at =
      let next = certificate_end w S s at in
      tenure_at w s later at next ∷ tenures_at later next

  -- all of them
  unfoldable pub tenures_of : List Tenure
  tenures_of = tenures_at (leader_count s) (leaders_from w S s)
