-- The number, from that of the checks before and of what they let through.
-- Assumes nothing.
use mathlib.Core.Path.{◌≡◌, sym, ◌∙◌}
use mathlib.Core.List.{List}
use Prim.Native.Nat.{ℕ}
use Rattle.roster.specs.Roster.{signature_size, roster_number}
use Rattle.submission.specs.Validate.{form_of}
use Rattle.assembly.specs.Assembly.{input_number, output_number, assemble_number, assemble_length, output_after}
use Rattle.assembly.proofs.Answers.{input-met, input-passed, output-decides, refused-length, refused-output}
use Rattle.assembly_service.specs.Taken.{Checked}

module _ (roster log item_bytes : List ℕ) where
  pub checked : roster_number roster ≡ 0 → input_number (form_of roster).term_bytes (signature_size roster) log item_bytes ≡ 0 → Checked roster log item_bytes
  checked fine e =
      let met = input-passed (form_of roster).term_bytes (signature_size roster) log item_bytes e in
      record { fine = fine; counts = met.0; order = met.1; items = met.2 }

  module _ (output : List ℕ) where
    pub checked-decides : {r : ℕ} → Checked roster log item_bytes → r ≡ output_number roster log item_bytes output → r ≡ assemble_number roster log item_bytes output
    checked-decides ok e =
        let met = input-met (form_of roster).term_bytes (signature_size roster) log item_bytes ok.counts ok.order ok.items in
        e ∙ output-decides roster log item_bytes output ok.fine met

    -- a refusal: its number, length 0, and the output as it was
    pub refusal-answers : {number size r : ℕ} → (number ≡ r) × (size ≡ 0) → r ≡ assemble_number roster log item_bytes output → (r ≡ 0 → ⊥)
        → (number ≡ assemble_number roster log item_bytes output)
        × ((size ≡ assemble_length roster log item_bytes output) × (output ≡ output_after roster log item_bytes output))
    refusal-answers given e h =
        let no : assemble_number roster log item_bytes output ≡ 0 → ⊥ = λ z. h (e ∙ z) in
        (given.0 ∙ e, (given.1 ∙ sym (refused-length roster log item_bytes output no), sym (refused-output roster log item_bytes output no)))
