-- What each answer says: the checks that passed where the number is 0, when it is which other, and what is written.
-- Assumes nothing.
use mathlib.Core.Path.{◌≡◌, refl, sym, ap, ◌∙◌}
use mathlib.Core.Bool.{true, false}
use mathlib.Core.List.{List, [], ◌∷◌}
use mathlib.Core.Logic.{⊎_elim}
use mathlib.Core.Option.{Option, some, none, Option-elim}
use Prim.Native.Nat.{ℕ, ◌≤◌, ◌<◌}
use native.Mathlib.Omega.{arith}
use borrow.Author.Tests.{eq-eqb, ne_eqb, leb-true, le-leb, lt-leb}
use lib.Dec.{leb, lit<}
use lib.ListN.{length}
use Rattle.words.proofs.Over.{over_nothing}
use Rattle.words.specs.Over.{over}
use Rattle.refusal.specs.Checks.{check, refusal}
use Rattle.refusal.proofs.Laws.{look, accepted, no_check, passed, refused, first-refused, first-accepted, first-zero}
use Rattle.roster.specs.Roster.{signature_size, roster_number}
use Rattle.log_chain.specs.Ends.{rising}
use Rattle.submission.specs.Validate.{form_of}
use Rattle.assembly.specs.Items.{whole}
use Rattle.assembly.specs.Assembly.{log_of, log_counted, records_given, assembled, input_number, output_number, assemble_number, assembled_bytes, assemble_length, output_after}

-- ---- 8, 11 and 19

module _ (w S : ℕ) (log item_bytes : List ℕ) where
  pub number-8 : log_counted w log ≡ false → input_number w S log item_bytes ≡ 8
  unfolding input_number
  number-8 e = refused 8 _ _ e

  module _ (counted : log_counted w log ≡ true) where
    pub number-11 : rising 1 (log_of w log) ≡ false → input_number w S log item_bytes ≡ 11
    unfolding input_number
    number-11 e = passed 8 _ _ counted ∙ refused 11 _ _ e

    module _ (order : rising 1 (log_of w log) ≡ true) where
      pub number-19 : whole w S item_bytes ≡ false → input_number w S log item_bytes ≡ 19
      unfolding input_number
      number-19 e = passed 8 _ _ counted ∙ passed 11 _ _ order ∙ refused 19 _ _ e

      pub input-met : whole w S item_bytes ≡ true → input_number w S log item_bytes ≡ 0
      unfolding input_number
      input-met e = passed 8 _ _ counted ∙ passed 11 _ _ order ∙ passed 19 _ _ e ∙ no_check

  -- none of them
  pub input-passed : input_number w S log item_bytes ≡ 0 → (log_counted w log ≡ true) × (rising 1 (log_of w log) ≡ true) × (whole w S item_bytes ≡ true)
  unfolding input_number
  input-passed e =
      let c8 = accepted 8 _ _ (lit< tt) e in
      let c11 = accepted 11 _ _ (lit< tt) c8.1 in
      (c8.0, c11.0, (accepted 19 _ _ (lit< tt) c11.1).0)

module _ (roster log item_bytes output : List ℕ) where
  -- ---- one after the other

  pub roster-refuses : {r : ℕ} → r ≡ roster_number roster → (r ≡ 0 → ⊥) → r ≡ assemble_number roster log item_bytes output
  unfolding assemble_number
  roster-refuses e h = first-refused _ e h

  module _ (fine : roster_number roster ≡ 0) where
    pub input-refuses : {r : ℕ} → r ≡ input_number (form_of roster).term_bytes (signature_size roster) log item_bytes → (r ≡ 0 → ⊥)
        → r ≡ assemble_number roster log item_bytes output
    unfolding assemble_number
    input-refuses e h = first-accepted fine (first-refused _ e h)

    pub output-decides : input_number (form_of roster).term_bytes (signature_size roster) log item_bytes ≡ 0
        → output_number roster log item_bytes output ≡ assemble_number roster log item_bytes output
    unfolding assemble_number
    output-decides e = first-accepted fine (first-accepted e refl)

  -- ---- 20 and 21

  pub none-led : assembled roster log item_bytes ≡ none → output_number roster log item_bytes output ≡ 20
  unfolding output_number Option-elim
  none-led e = rw e

  -- 20 for nothing else
  pub only-none-led : output_number roster log item_bytes output ≡ 20 → assembled roster log item_bytes ≡ none
  unfolding output_number Option-elim
  only-none-led e = go (assembled roster log item_bytes) refl e
    where
      go : (o : Option (List ℕ)) → assembled roster log item_bytes ≡ o
          → Option-elim o 20 (λ s. refusal (check 21 (leb (length s) (length output)) ∷ [])) ≡ 20 → assembled roster log item_bytes ≡ none
      go none is e = is
      go (some s) is e =
          absurd (⊎_elim
          (λ (y : leb (length s) (length output) ≡ true). omega (arith, sym (passed 21 _ _ y ∙ no_check) ∙ e))
          (λ (n : leb (length s) (length output) ≡ false). omega (arith, sym (refused 21 _ _ n) ∙ e))
          (look (leb (length s) (length output))))

  pub output-short : (s : List ℕ) → assembled roster log item_bytes ≡ some s → length output < length s → output_number roster log item_bytes output ≡ 21
  unfolding output_number Option-elim
  output-short s e h = rw e (refused 21 _ _ (lt-leb _ _ h))

  pub output-enough : (s : List ℕ) → assembled roster log item_bytes ≡ some s → length s ≤ length output → output_number roster log item_bytes output ≡ 0
  unfolding output_number Option-elim refusal
  output-enough s e h = rw e (passed 21 _ [] (le-leb _ _ h))

  -- neither
  pub record Fitted : Type 0 where
    pub bytes : List ℕ
    pub made : assembled roster log item_bytes ≡ some bytes
    pub room : length bytes ≤ length output

  output-fits : output_number roster log item_bytes output ≡ 0 → Fitted
  unfolding output_number Option-elim
  output-fits e = go (assembled roster log item_bytes) refl e
    where
      go : (o : Option (List ℕ)) → assembled roster log item_bytes ≡ o
          → Option-elim o 20 (λ s. refusal (check 21 (leb (length s) (length output)) ∷ [])) ≡ 0 → Fitted
      go none is e = absurd (omega (arith, e))
      go (some s) is e = record { bytes = s; made = is; room = leb-true _ _ (accepted 21 _ _ (lit< tt) e).0 }

  -- ---- the number 0

  pub record Passed : Type 0 where
    pub fine : roster_number roster ≡ 0
    pub counted : log_counted (form_of roster).term_bytes log ≡ true
    pub order : rising 1 (records_given roster log) ≡ true
    pub items : whole (form_of roster).term_bytes (signature_size roster) item_bytes ≡ true
    pub fitted : Fitted

  pub all-passed : assemble_number roster log item_bytes output ≡ 0 → Passed
  unfolding assemble_number
  all-passed e =
      let roster-passed = first-zero (roster_number roster) _ e in
      let rest = first-zero _ (output_number roster log item_bytes output) roster-passed.1 in
      let met = input-passed (form_of roster).term_bytes (signature_size roster) log item_bytes rest.0 in
      record { fine = roster-passed.0; counted = met.0; order = met.1; items = met.2; fitted = output-fits rest.1 }

  -- ---- what is written

  -- nothing where it is refused
  nothing_written : (assemble_number roster log item_bytes output ≡ 0 → ⊥) → assembled_bytes roster log item_bytes output ≡ []
  unfolding assembled_bytes
  nothing_written h = rw (ne_eqb _ 0 h)

  pub refused-length : (assemble_number roster log item_bytes output ≡ 0 → ⊥) → assemble_length roster log item_bytes output ≡ 0
  unfolding assemble_length
  refused-length h = ap length (nothing_written h)

  pub refused-output : (assemble_number roster log item_bytes output ≡ 0 → ⊥) → output_after roster log item_bytes output ≡ output
  unfolding output_after
  refused-output h = ap (λ s. over s output) (nothing_written h) ∙ over_nothing output

  -- otherwise the submission
  pub bytes-written : (s : List ℕ) → assemble_number roster log item_bytes output ≡ 0 → assembled roster log item_bytes ≡ some s
      → assembled_bytes roster log item_bytes output ≡ s
  unfolding assembled_bytes
  bytes-written s is_zero made = rw (eq-eqb _ 0 is_zero, made)

  pub accepted-length : (s : List ℕ) → assemble_number roster log item_bytes output ≡ 0 → assembled roster log item_bytes ≡ some s
      → assemble_length roster log item_bytes output ≡ length s
  unfolding assemble_length
  accepted-length s is_zero made = ap length (bytes-written s is_zero made)

  pub accepted-output : (s : List ℕ) → assemble_number roster log item_bytes output ≡ 0 → assembled roster log item_bytes ≡ some s
      → output_after roster log item_bytes output ≡ over s output
  unfolding output_after
  accepted-output s is_zero made = ap (λ z. over z output) (bytes-written s is_zero made)
