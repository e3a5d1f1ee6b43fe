-- The terms of a submission that are left, one leader certificate after the other: the row so far and what is left give the row that is asked.
-- Assumes nothing.
use mathlib.Core.Path.{◌≡◌, refl, sym, ap, ◌∙◌}
use mathlib.Core.Bool.{true}
use mathlib.Core.List.{List, [], ◌∷◌, flat_map}
use mathlib.Core.Option.{Option}
use Prim.Native.Nat.{ℕ, suc, ◌+◌, ◌-◌, ◌*◌, ◌≤◌, ◌<◌}
use native.Mathlib.Omega.{arith}
use lib.ListN.{length}
use Rattle.replica.specs.Charges.{Charge}
use Rattle.submission.specs.Trailer.{trailer_at, record_count, leader_count}
use Rattle.log_chain.specs.Records.{record_size}
use Rattle.submission.specs.Reading.{ballot_size, certificate_end, certificates_end, leaders_from, laid_out}
use Rattle.forensics.specs.Findings.{lowest}
use Rattle.submission.proofs.Certificates.{certificates-from, end-first}
use Rattle.submission_parts.specs.Reader.{fields_size, last_pointer_place}
use Rattle.submission_parts.proofs.Readings.{certificate_fields}
use Rattle.submission_parts.proofs.Inside.{leaders-inside}
use Rattle.forensics_charges.specs.declared.Tenure.{Tenure}
use Rattle.forensics_charges.specs.Charges.{least}
use Rattle.forensics_find.specs.Tenures.{tenure_at, tenures_at, tenures_of}
use Rattle.forensics_charges.proofs.Lowest.{least-none, least_assoc, lowest-append}

module _ (w S : ℕ) (s : List ℕ) where
  tenures-first : (left at : ℕ) → 0 < left
      → tenures_at w S s left at ≡ tenure_at w s (left - 1) at (certificate_end w S s at) ∷ tenures_at w S s (left - 1) (certificate_end w S s at)
  unfolding tenures_at
  tenures-first left at more =
      let count : left ≡ suc (left - 1) = omega arith in
      ap (λ (n : ℕ). tenures_at w S s n at) count

  -- so many certificates from a place on lie inside
  pub record Inside (left at : ℕ) : Type 0 where
    pub inside : certificates_end w S s left at ≤ trailer_at s

  module _ (left at : ℕ) (x : Inside left at) (more : 0 < left) where
    rest-inside : certificates_end w S s (left - 1) (certificate_end w S s at) ≤ trailer_at s
    rest-inside = rw (end-first w S s left at more) at x.inside

    -- the first lies inside, and so do its fields and those of the one after it
    pub end-inside : certificate_end w S s at ≤ length s
    end-inside = omega (arith, certificates-from w S s (left - 1) (certificate_end w S s at), rest-inside)

    pub first-inside : at + fields_size w ≤ length s
    first-inside = omega (arith, certificate_fields w S s at, certificates-from w S s (left - 1) (certificate_end w S s at), rest-inside)

    pub next-inside : {next : ℕ} → next ≡ certificate_end w S s at → 0 < left - 1 → next + last_pointer_place w ≤ length s
    unfolding ballot_size
    next-inside {next} e h =
        let inside : certificates_end w S s (left - 1) next ≤ trailer_at s = rw e rest-inside in
        let rest = rw (end-first w S s (left - 1) next h) at inside in
        omega (arith, certificate_fields w S s next, certificates-from w S s (left - 1 - 1) (certificate_end w S s next), rest)

    pub inside_next : {next : ℕ} → next ≡ certificate_end w S s at → Inside (left - 1) next
    inside_next e = record { inside = rw e rest-inside }

  -- f is the charges from one term, and b the lowest from all
  module _ (f : Tenure → List Charge) (b : Option Charge) where
    pub record RowsLeft (left at : ℕ) (best : Option Charge) : Type 0 where
      pub answer : least best (lowest (flat_map f (tenures_at w S s left at))) ≡ b

    module _ (left at : ℕ) {best : Option Charge} (x : RowsLeft left at best) where
      -- none is left
      pub rows-done : left ≤ 0 → best ≡ b
      unfolding tenures_at flat_map lowest
      rows-done h =
          let none : left ≡ 0 = omega arith in
          sym (least-none best) ∙ rw none at x.answer

      module _ (more : 0 < left) where
        -- one more is charged
        pub rows_next : {next : ℕ} {y : Tenure} {row best' : Option Charge} → next ≡ certificate_end w S s at → y ≡ tenure_at w s (left - 1) at next
            → row ≡ lowest (f y) → best' ≡ least best row → RowsLeft (left - 1) next best'
        unfolding flat_map
        rows_next {next} {y} {row} {best'} en ey er eb =
            let later = flat_map f (tenures_at w S s (left - 1) (certificate_end w S s at)) in
            let here : y ≡ tenure_at w s (left - 1) at (certificate_end w S s at) = rw en at ey in
            record {
              answer =
                  rw (en, eb, er, here)
                  (least_assoc best (lowest (f (tenure_at w s (left - 1) at (certificate_end w S s at)))) (lowest later)
                  ∙ ap (least best) (sym (lowest-append (f (tenure_at w s (left - 1) at (certificate_end w S s at))) later))
                  ∙ rw (tenures-first left at more) at x.answer);
            }

-- all of them
pub inside_all : (w S : ℕ) (s : List ℕ) {left at : ℕ} → laid_out w S s ≡ true → left ≡ leader_count s → at ≡ record_size w * record_count s
    → Inside w S s left at
unfolding leaders_from
inside_all w S s laid el ea = rw (el, ea) (record { inside = leaders-inside w S s laid })

pub rows_all : (w S : ℕ) (s : List ℕ) (f : Tenure → List Charge) {best : Option Charge} {left at : ℕ} → best ≡ lowest [] → left ≡ leader_count s
    → at ≡ record_size w * record_count s → RowsLeft w S s f (lowest (flat_map f (tenures_of w S s))) left at best
unfolding tenures_of leaders_from lowest least
rows_all w S s f eb el ea = rw (eb, el, ea) (record { answer = refl })
