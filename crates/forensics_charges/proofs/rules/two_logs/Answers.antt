-- The stamps first, and then the difference.
use mathlib.Core.Path.{sym, ◌∙◌}
use mathlib.Core.List.{[], ◌∷◌}
use Rattle.refusal.proofs.Laws.{all_one}
use Rattle.forensics_charges.specs.Rules.{two_logs}
use Rattle.forensics_charges.proofs.Broken.{part-fails, part-holds}
use Rattle.forensics_charges.proofs.rules.two_logs.Goals as goal

pub returns-then-both_stamped : goal.returns-then-both_stamped
unfolding two_logs
returns-then-both_stamped c =
    part-holds (_ ∷ _ ∷ _ ∷ []) _ (sym c.both_stamped.ensures ∙ c.if-both_stamped.true) (c.reached.ensures ∙ all_one _)

pub returns-else-both_stamped : goal.returns-else-both_stamped
unfolding two_logs
returns-else-both_stamped c =
    part-fails (_ ∷ _ ∷ _ ∷ []) _ c.if-both_stamped.false (sym c.both_stamped.ensures ∙ c.if-both_stamped.false)
