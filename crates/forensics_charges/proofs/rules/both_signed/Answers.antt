-- The first decides where it fails, and the second after it.
use mathlib.Core.Path.{sym, ◌∙◌}
use Rattle.refusal.proofs.Laws.{first_fails, first_holds, all_one}
use Rattle.forensics_charges.proofs.rules.both_signed.Goals as goal

pub returns-then-signer : goal.returns-then-signer
returns-then-signer c =
    c.signer-then-signer.ensures
    ∙ first_holds _ _ (sym c.signer.ensures ∙ c.if-signer.true) (all_one _)

pub returns-else-signer : goal.returns-else-signer
returns-else-signer c =
    c.if-signer.false ∙ first_fails _ _ (sym c.signer.ensures ∙ c.if-signer.false)
