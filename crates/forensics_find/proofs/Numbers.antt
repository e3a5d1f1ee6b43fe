-- One term as it is read: the numbers and the last pointer of its leader certificate, and its end.
-- Assumes nothing.
use mathlib.Core.Path.{◌≡◌, sym, ap, ◌∙◌}
use mathlib.Core.List.{List}
use Prim.Native.Nat.{ℕ, suc, ◌+◌, ◌-◌, ◌<◌}
use native.Mathlib.Omega.{arith}
use Rattle.words.specs.BigEndian.{number_at}
use Rattle.submission.specs.Trailer.{record_count}
use Rattle.submission.specs.Reading.{ballot_at}
use Rattle.submission_parts.specs.declared.Certificate.{Certificate as Numbers}
use Rattle.submission_parts.specs.Reader.{numbers_at}
use Rattle.submission.proofs.Places.{last-index-at}
use Rattle.forensics_charges.specs.declared.Tenure.{Tenure}
use Rattle.forensics_find.specs.Tenures.{end_at, tenure_at}

module _ (w : ℕ) (s : List ℕ) (later next : ℕ) where
  pub ends-log : later ≡ 0 → record_count s ≡ end_at w s later next
  unfolding end_at
  ends-log h = rw h

  pub ends_next : 0 < later → number_at 4 s (next + 2 + w + w) ≡ end_at w s later next
  unfolding end_at
  ends_next h =
      let count : later ≡ suc (later - 1) = omega arith in
      last-index-at w s next ∙ ap (λ (n : ℕ). end_at w s n next) (sym count)

pub tenure_numbers : (w : ℕ) (s : List ℕ) (later at next : ℕ) {c : Numbers} {end : ℕ} {pointer : List ℕ} → c ≡ numbers_at w s at
    → pointer ≡ (ballot_at w s at).last_pointer → end ≡ end_at w s later next
    → ◌≡◌ {A = Tenure}
    (record {
      term = c.term;
      request = record { candidate = c.candidate; last_term = c.last_term; last_index = c.last_index; last_pointer = pointer };
      signers = c.signers;
      end = end;
    })
    (tenure_at w s later at next)
unfolding tenure_at numbers_at
tenure_numbers w s later at next ec ep ee = rw (ec, ep, ee)
