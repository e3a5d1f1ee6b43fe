-- Demand 3 on the report's bytes: naming by the naming of views, fairness since a replica that keeps the rules has no charge. The mask in the bytes has
-- a one exactly where a row has a charge; after a refusal it is 0.
-- Assumes nothing.
use mathlib.Core.Path.{◌≡◌, refl, sym, ◌∙◌}
use mathlib.Core.Bool.{true, false}
use mathlib.Core.List.Memᴰ
use mathlib.Core.List.{List, [], ◌∷◌}
use mathlib.Core.Logic.{⊎_elim}
use Prim.Native.Nat.{ℕ, ◌^◌, ◌<◌}
use native.Mathlib.Nat.{lt_of_lt_of_le}
use native.Mathlib.Omega.{arith}
use lib.Dec.{lit<, lit≤}
use lib.ListN.{drop}
use Rattle.words.proofs.Bytes.{Bytes}
use Rattle.refusal.proofs.Laws.{look}
use Rattle.roster.specs.Roster.{replicas, signature_size}
use Rattle.roster.specs.Masks.{signer}
use Rattle.roster.proofs.Masks.{signer-none}
use Rattle.roster.proofs.Accepted.{sizes}
use Rattle.submission.specs.Validate.{slot_use, form_of, view_of, slots_of}
use Rattle.submission.proofs.Accepted.{validated}
use Rattle.forensics.specs.Findings.{findings, found_in, row_count, rows_from, mask_of, bit}
use Rattle.forensics.proofs.Agree.{differ_at_lem}
use Rattle.forensics.proofs.Naming.{naming as views-naming}
use Rattle.forensics.proofs.Rows.{mask_small, mask-clear}
use Rattle.report.specs.Report.{Answer, refused, answer, report_size, short, audit_number, report_after, named_in}
use Rattle.report.specs.Claims.{Naming, Fair, Fairness}
use Rattle.report.proofs.Bytes.{named_in_lem, Outcome, compared, stopped, outcome}
use Rattle.report.proofs.Fairness.{rows-fair}

-- nine rows have a mask that fits its two bytes
mask_fits : (roster s₁ s₂ : List ℕ) → mask_of (found_in roster s₁ s₂).rows < 256 ^ 2
unfolding found_in findings rows_from
mask_fits roster s₁ s₂ = lt_of_lt_of_le (mask_small (found_in roster s₁ s₂).rows) (lit≤ tt)

module _ (roster s₁ s₂ report : List ℕ) where
  -- a number other than 1: the report is written
  long : (audit_number roster s₁ s₂ report ≡ 1 → ⊥) → short report ≡ false
  unfolding audit_number
  long other = ⊎_elim (λ (e : short report ≡ true). absurd (other (rw e))) (λ e. e) (look (short report))

  -- its number
  number_is : short report ≡ false → (a : Answer) → answer roster s₁ s₂ ≡ a → audit_number roster s₁ s₂ report ≡ a.number
  unfolding audit_number
  number_is e a d = rw (e, d)

  -- and its named replicas
  named-are : short report ≡ false → (a : Answer) → answer roster s₁ s₂ ≡ a → mask_of a.findings.rows < 256 ^ 2
      → named_in (report_after roster s₁ s₂ report) ≡ mask_of a.findings.rows
  unfolding report_after
  named-are e a d h = rw (e, d) (named_in_lem a (drop report_size report) h)

  pub naming : Naming roster s₁ s₂ (audit_number roster s₁ s₂ report) (report_after roster s₁ s₂ report)
  unfolding Naming refused found_in
  naming zero_number differ nobody = go (long (λ one. omega (arith, one, zero_number))) (outcome roster s₁ s₂)
    where
      go : short report ≡ false → Outcome roster s₁ s₂ → ⊥
      go e (stopped number place Some-number d) = Some-number (sym (number_is e (refused number place) d) ∙ zero_number)
      go e (compared r v₁ v₂ d) =
          let few = sizes roster r in
          let apart = differ_at_lem differ.index _ _ differ.one differ.other differ.in_one differ.in-other differ.differ in
          let positive = views-naming (slot_use (form_of roster) roster) (form_of roster) (replicas roster) (signature_size roster) (omega (arith, few.low)) few.high
          (view_of roster s₁) (view_of roster s₂)
          (validated roster s₁ v₁).sound (validated roster s₂ v₂).sound apart in
          omega (arith, positive, named-are e _ d (mask_fits roster s₁ s₂), nobody)

  pub fairness : Bytes s₁ → Bytes s₂ → Fairness roster s₁ s₂ (audit_number roster s₁ s₂ report) (report_after roster s₁ s₂ report)
  unfolding Fairness Fair refused mask_of bit found_in findings slots_of
  fairness b₁ b₂ other k low high acts keep own apart = go (long other) (outcome roster s₁ s₂)
    where
      go : short report ≡ false → Outcome roster s₁ s₂ → signer (named_in (report_after roster s₁ s₂ report)) k ≡ false
      go e (stopped number place Some-number d) = rw (named-are e (refused number place) d (lit< tt)) (signer-none k)
      go e (compared r v₁ v₂ d) =
          let few = sizes roster r in
          let none_charged = rows-fair roster (s₁ ∷ s₂ ∷ []) (omega (arith, few.high)) k acts keep own apart
          s₁ s₂ (Memᴰ.head refl) (Memᴰ.tail (Memᴰ.head refl)) b₁ b₂ v₁ v₂ in
          rw (named-are e _ d (mask_fits roster s₁ s₂))
          (mask-clear (slot_use (form_of roster) roster) (slots_of roster s₁) (slots_of roster s₂) row_count k low (omega (arith, few.high, high)) none_charged)
