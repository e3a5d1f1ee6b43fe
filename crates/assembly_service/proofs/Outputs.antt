-- The answer for the rows that were taken: 20 where some term has no leader, 21 for a short output, or the submission.
-- Assumes nothing.
use mathlib.Core.Path.{◌≡◌, sym, ap, subst, ◌∙◌}
use mathlib.Core.List.{List}
use mathlib.Core.Option.{some, none}
use Prim.Native.Nat.{ℕ, ◌/◌, ◌≤◌, ◌<◌}
use native.Mathlib.Omega.{arith}
use lib.ListN.{length}
use Rattle.std.specs.Prelude.{Option, Some, None}
use Rattle.words.specs.Over.{over}
use Rattle.roster.specs.Roster.{replicas, signature_size}
use Rattle.log_chain.specs.Log.{version1}
use Rattle.log_chain.specs.Records.{record_size}
use Rattle.submission.specs.Validate.{form_of}
use Rattle.assembly.specs.Assembly.{assembled, assemble_number, assemble_length, output_after}
use Rattle.assembly.proofs.Answers.{none-led, output-short, output-enough, accepted-length, accepted-output}
use Rattle.assembly_writer.specs.declared.Plan.{Plan}
use Rattle.assembly_writer.specs.Written.{bytes_taken, Planned}
use Rattle.assembly_service.specs.Taken.{Checked, plan_of, bytes_if, PlannedIf, RowsTaken}
use Rattle.assembly_service.proofs.Answers.{checked-decides, refusal-answers}

-- the plan as the code has it
pub plan_given : (roster log : List ℕ) (size n each leaders : ℕ) → size ≡ signature_size roster → n ≡ replicas roster → each ≡ record_size 4
    → ◌≡◌ {A = Plan} (record { width = 4; size = size; replicas = n; records = length log / each; leaders = leaders }) (plan_of roster log leaders)
unfolding plan_of form_of version1
plan_given roster log size n each leaders s k e =
    λ i. record { width = 4; size = s i; replicas = k i; records = length log / e i; leaders = leaders }

module _ (roster log item_bytes output : List ℕ) (ok : Checked roster log item_bytes) (votes taken : List ℕ) (r : Option ℕ)
    (rows : RowsTaken roster log item_bytes votes taken r) where
  pub missing-answers : {number size : ℕ} → r ≡ None → (number ≡ 20) × (size ≡ 0)
      → (number ≡ assemble_number roster log item_bytes output)
      × ((size ≡ assemble_length roster log item_bytes output) × (output ≡ output_after roster log item_bytes output))
  unfolding bytes_if
  missing-answers e given =
      let made : assembled roster log item_bytes ≡ none = rows.same ∙ ap (bytes_if roster log item_bytes taken) e in
      refusal-answers roster log item_bytes output given (checked-decides roster log item_bytes output ok (sym (none-led roster log item_bytes output made))) (λ z. omega (arith, z))

  module _ (leaders : ℕ) (plan : Plan) (e : r ≡ Some leaders) (p : plan ≡ plan_of roster log leaders) where
    pub plan-held : Planned roster log item_bytes votes plan taken
    unfolding PlannedIf
    plan-held = subst (λ q. Planned roster log item_bytes votes q taken) (sym p) (subst (PlannedIf roster log item_bytes votes taken) e rows.planned)

    made : assembled roster log item_bytes ≡ some (bytes_taken roster log item_bytes plan taken)
    unfolding bytes_if
    made = rows.same ∙ ap (bytes_if roster log item_bytes taken) e ∙ ap (λ q. some (bytes_taken roster log item_bytes q taken)) (sym p)

    pub short-answers : {number size total : ℕ} → total ≡ length (bytes_taken roster log item_bytes plan taken) → length output < total
        → (number ≡ 21) × (size ≡ 0)
        → (number ≡ assemble_number roster log item_bytes output)
        × ((size ≡ assemble_length roster log item_bytes output) × (output ≡ output_after roster log item_bytes output))
    short-answers t h given =
        refusal-answers roster log item_bytes output given
        (checked-decides roster log item_bytes output ok (sym (output-short roster log item_bytes output _ made (omega (arith, t, h))))) (λ z. omega (arith, z))

    pub written-answers : {size total : ℕ} {after : List ℕ} → total ≡ length (bytes_taken roster log item_bytes plan taken) → total ≤ length output
        → size ≡ length (bytes_taken roster log item_bytes plan taken) → after ≡ over (bytes_taken roster log item_bytes plan taken) output
        → (0 ≡ assemble_number roster log item_bytes output)
        × ((size ≡ assemble_length roster log item_bytes output) × (after ≡ output_after roster log item_bytes output))
    written-answers t h size after =
        let zero = checked-decides roster log item_bytes output ok (sym (output-enough roster log item_bytes output _ made (omega (arith, t, h)))) in (
          zero,
          (
            size ∙ sym (accepted-length roster log item_bytes output _ (sym zero) made),
            after ∙ sym (accepted-output roster log item_bytes output _ (sym zero) made),
          ),
        )
