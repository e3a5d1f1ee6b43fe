-- The signers first, and then the vote.
use mathlib.Core.Path.{sym, ◌∙◌}
use mathlib.Core.List.{[], ◌∷◌}
use Rattle.forensics_charges.specs.Rules.{forgotten}
use Rattle.forensics_charges.proofs.Broken.{part-fails, part-holds}
use Rattle.forensics_charges.proofs.rules.receipt_forgotten.Goals as goal

pub returns-then-both_signed : goal.returns-then-both_signed
unfolding forgotten
returns-then-both_signed c =
    part-holds (_ ∷ _ ∷ []) _ (sym c.both_signed.ensures ∙ c.if-both_signed.true) c.stale_vote.ensures

pub returns-else-both_signed : goal.returns-else-both_signed
unfolding forgotten
returns-else-both_signed c =
    part-fails (_ ∷ _ ∷ []) _ c.if-both_signed.false (sym c.both_signed.ensures ∙ c.if-both_signed.false)
