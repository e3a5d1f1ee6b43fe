-- A term that was read from four bytes fits the report's four bytes. The term of a charge is that of one of its two statements; in an accepted
-- submission each statement's term was read from the bytes of a term. The leaf of a good signature is one of its tree's, and fits too. So a row of two
-- accepted submissions says the very term, or the leaf's very number, of its charge.
-- Assumes nothing.
use mathlib.Core.Path.{◌≡◌, sym, subst}
use mathlib.Core.List.Memᴰ
use mathlib.Core.List.{List, ◌++◌, Memᴰ}
use mathlib.Core.Logic.{⊎_elim}
use mathlib.Core.Option.{some}
use Prim.Native.Nat.{ℕ, zero, suc, ◌^◌, ◌<◌}
use Rattle.words.specs.BigEndian.{number, be, number_at}
use Rattle.words.proofs.Bytes.{Bytes}
use Rattle.words.proofs.Laws.{number-be}
use Rattle.refusal.proofs.Laws.{every-mem}
use Rattle.lm_format.specs.Leaf.{leaf_number}
use Rattle.lm_format.specs.Uses.{Use, use_of}
use Rattle.lms.proofs.Leaves.{good-leaf}
use Rattle.roster.specs.Roster.{key_of}
use Rattle.log_chain.specs.Log.{Form, version1}
use Rattle.log_chain.specs.Claim.{Claim, stamped, received, voted, say}
use Rattle.log_chain.proofs.Fits.{ClaimFits}
use Rattle.replica.specs.Charges.{Charge}
use Rattle.submission.specs.View.{Slot}
use Rattle.submission.specs.Validate.{genuine, slot_use, form_of, slots_of, validate}
use Rattle.submission.proofs.Accepted.{validated}
use Rattle.submission.proofs.Fits.{accepted_speaks}
use Rattle.forensics.specs.Findings.{says, all_charges, lowest, rows_from, row_count, findings, found_in}
use Rattle.forensics.proofs.Fair.{says_slot, uses-slot}
use Rattle.forensics.proofs.Members.{term_of, clash_of, reuse_of, of-all, lowest-mem}
use Rattle.report.specs.Report.{row_bytes}

-- ---- from statements to rows

-- over the bytes of a term
module _ (form : Form) where
  abbrev Fits : Charge → Type 0
  Fits c = c.term < 256 ^ form.term_bytes

  claim-fits : (x : Claim) → ClaimFits form x → term_of x < 256 ^ form.term_bytes
  claim-fits (stamped t log) f = f.term
  claim-fits (received t log) f = f.term
  claim-fits (voted b) f = f.term

  says-fit : (k : ℕ) (zs : List Slot) → ((z : Slot) → Memᴰ z zs → ClaimFits form z.claim) → (x : Claim) → Memᴰ x (says k zs) → term_of x < 256 ^ form.term_bytes
  says-fit k zs f x m = let z = says_slot k zs x m in claim-fits x (subst (ClaimFits form) (sym z.3) (f z.0 z.1))

  -- the statements of two submissions fit their fields, and so do their leaves
  module _ (as_use : Slot → Use) (xs ys : List Slot)
      (fx : (x : Slot) → Memᴰ x xs → ClaimFits form x.claim) (fy : (y : Slot) → Memᴰ y ys → ClaimFits form y.claim)
      (fu : (x : Slot) → Memᴰ x (xs ++ ys) → leaf_number (as_use x).leaf < 256 ^ form.term_bytes) where
    -- a charge has the term of one of the two statements, or the number of the leaf
    all_fit : (k : ℕ) (c : Charge) → Memᴰ c (all_charges as_use k xs ys) → Fits c
    all_fit k =
        of-all as_use k xs ys Fits
        (λ x y mx my c m. ⊎_elim (λ e. rw e (says-fit k xs fx x mx)) (λ e. rw e (says-fit k ys fy y my)) (clash_of x y c m).term)
        (λ u v mu c m. let x = uses-slot as_use k (xs ++ ys) u mu in rw (reuse_of u v c m, x.3) (fu x.0 x.1))

    rows_fit : (count k : ℕ) (c : Charge) → Memᴰ (some c) (rows_from as_use count k xs ys) → Fits c
    unfolding rows_from
    rows_fit zero k c m = absurd (Memᴰ.not-nil m)
    rows_fit (suc count) k c m =
        ⊎_elim
        (λ (e : some c ≡ lowest (all_charges as_use k xs ys)). all_fit k c (lowest-mem (all_charges as_use k xs ys) c (sym e)))
        (λ h. rows_fit count (suc k) c h)
        (Memᴰ.cases_cons m)

-- ---- of two accepted submissions

module _ (roster s₁ s₂ : List ℕ) (b₁ : Bytes s₁) (b₂ : Bytes s₂) (v₁ : validate roster s₁ ≡ 0) (v₂ : validate roster s₂ ≡ 0)
    (c : Charge) (m : Memᴰ (some c) (found_in roster s₁ s₂).rows) where
  -- check 15: each signature is good, so that its leaf's number fits
  leaf-of : (s : List ℕ) → validate roster s ≡ 0 → (x : Slot) → Memᴰ x (slots_of roster s)
      → leaf_number (slot_use (form_of roster) roster x).leaf < 256 ^ 4
  unfolding genuine slot_use use_of
  leaf-of s v x h =
      good-leaf (key_of roster x.replica) (say (form_of roster) x.claim) x.signature
      (every-mem (genuine (form_of roster) roster) (slots_of roster s) (validated roster s v).signatures x h)

  -- a term has four bytes too
  pub term_fits : c.term < 256 ^ 4
  unfolding found_in findings slots_of form_of version1
  term_fits =
      rows_fit (form_of roster) (slot_use (form_of roster) roster) (slots_of roster s₁) (slots_of roster s₂)
      (λ x h. (accepted_speaks roster s₁ b₁ (validated roster s₁ v₁) x h).fits)
      (λ y h. (accepted_speaks roster s₂ b₂ (validated roster s₂ v₂) y h).fits)
      (λ x h. ⊎_elim (λ i. leaf-of s₁ v₁ x i) (λ i. leaf-of s₂ v₂ x i) (Memᴰ.append_cases (slots_of roster s₁) h))
      row_count 1 c m

  pub term-said : number (be 4 c.term) ≡ c.term
  term-said = number-be 4 c.term term_fits

  -- the term in the bytes of its row, after the rule
  pub row-says : number_at 4 (row_bytes (some c)) 1 ≡ c.term
  unfolding number_at row_bytes be
  row-says = term-said
