-- The pointers that validation hands on: of a refusal, and of an accepted submission; and of a form they have the term's width alone.
-- Assumes nothing.
use mathlib.Core.Path.{◌≡◌, sym, ◌∙◌}
use mathlib.Core.List.{[]}
use Prim.Native.Nat.{ℕ}
use borrow.Author.Tests.{ne_eqb}
use lib.ListN.{replicate}
use Rattle.std.specs.Prelude.{Result, Ok, Err}
use Rattle.std.proofs.lemmas.Result.{IfOk-at_ok, IfOk-weaker}
use Rattle.sha256.specs.Sha256.{bytes_of}
use Rattle.refusal.specs.declared.Refusal.{Refusal}
use Rattle.refusal.specs.Refusals.{number, number_of}
use Rattle.refusal.proofs.Refusals.{number-nonzero}
use Rattle.log_chain.specs.Log.{Form, pointer, pointer_from}
use Rattle.log_chain.proofs.Pointers.{pointer_form}
use Rattle.log_terms.specs.declared.LogPointers.{LogPointers}
use Rattle.log_terms.specs.Pointed.{PointersOf}
use Rattle.log_terms.proofs.Pointed.{pointers-unmet, unmet-pointers}
use Rattle.submission.specs.View.{View, committed}
use Rattle.submission_checks.specs.Pointers.{PointersHanded, PointersGiven}

module _ (form : Form) (v : View) where
  pub refuses : (refusal : Refusal) {p : LogPointers} {asked : ℕ} → PointersOf form [] [] p → asked ≡ number refusal
      → let validated : Result LogPointers Refusal = Err refusal in record { number : number_of validated ≡ asked; pointers : PointersGiven form v validated p }
  refuses refusal none e = record {
    number = sym e;
    pointers = unmet-pointers _ form (committed v) v.log (ne_eqb (number refusal) 0 (number-nonzero refusal)) none;
  }

  -- what it gives: with number 0 the pointers of the committed records and of the log, with another nothing of them

  pub accepted-hands : {validated : Result LogPointers Refusal} {p : LogPointers} → validated ≡ Ok p → PointersHanded form v validated → PointersOf form (committed v) v.log p
  accepted-hands e h = IfOk-at_ok (PointersOf form (committed v) v.log) e h

  pub nothing-handed : (validated : Result LogPointers Refusal) {p : LogPointers} → (number_of validated ≡ 0 → ⊥) → PointersGiven form v validated p
      → (bytes_of p.committed ≡ replicate 32 0) × (bytes_of p.last ≡ replicate 32 0)
  unfolding pointer pointer_from
  nothing-handed validated ne h =
      let none = pointers-unmet _ form (committed v) v.log (ne_eqb (number_of validated) 0 ne) h in (none.committed, none.last)

pub form_hands : (f g : Form) (v : View) (validated : Result LogPointers Refusal) → f.term_bytes ≡ g.term_bytes → PointersHanded f v validated → PointersHanded g v validated
form_hands f g v validated e h =
    IfOk-weaker validated (PointersOf f (committed v) v.log) (PointersOf g (committed v) v.log)
    (λ p of. record { committed = of.committed ∙ pointer_form f g e _; last = of.last ∙ pointer_form f g e _ }) h
