-- The signers first, and then the votes.
use mathlib.Core.Path.{sym, ◌∙◌}
use mathlib.Core.List.{[], ◌∷◌}
use Rattle.refusal.proofs.Laws.{all_one}
use Rattle.forensics_charges.specs.Rules.{two_requests}
use Rattle.forensics_charges.proofs.Broken.{part-fails, part-holds}
use Rattle.forensics_charges.proofs.rules.two_requests.Goals as goal

pub returns-then-both_signed : goal.returns-then-both_signed
unfolding two_requests
returns-then-both_signed c =
    part-holds (_ ∷ _ ∷ []) _ (sym c.both_signed.ensures ∙ c.if-both_signed.true) (c.two_votes.ensures ∙ all_one _)

pub returns-else-both_signed : goal.returns-else-both_signed
unfolding two_requests
returns-else-both_signed c =
    part-fails (_ ∷ _ ∷ []) _ c.if-both_signed.false (sym c.both_signed.ensures ∙ c.if-both_signed.false)
