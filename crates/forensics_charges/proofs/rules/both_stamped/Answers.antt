-- Each test that fails ends it, and the last decides.
use mathlib.Core.Path.{◌≡◌, sym, ◌∙◌}
use mathlib.Core.List.{[], ◌∷◌}
use borrow.Author.Tests.{eq-eqb, ne_eqb}
use lib.Dec.{eqb}
use Rattle.refusal.specs.Checks.{all}
use Rattle.refusal.proofs.Laws.{first_fails, first_holds, all_one}
use Rattle.forensics_charges.proofs.Broken.{part-fails, part-holds}
use Rattle.forensics_charges.proofs.rules.both_stamped.Goals.{then-x-k, else-x-k}
use Rattle.forensics_charges.proofs.rules.both_stamped.Goals as goal

pub returns-then-y-k : goal.returns-then-y-k
returns-then-y-k c =
    let a = c.args in
    let both : c.if-x-k.value ≡ all (eqb a.x a.k ∷ eqb a.y a.k ∷ []) = elim c.if-x-k.branch [
      | then-x-k w ↦ w.value-is ∙ first_holds _ _ (eq-eqb _ _ w.if-x-k.true) (all_one _)
      | else-x-k w ↦ w.value-is ∙ ne_eqb _ _ w.if-x-k.false ∙ first_fails _ _ (ne_eqb _ _ w.if-x-k.false)
    ] in
    part-holds (eqb a.x a.k ∷ eqb a.y a.k ∷ []) (eqb a.a a.b ∷ []) (sym both ∙ c.if-y-k.true) (all_one _)

pub returns-else-y-k : goal.returns-else-y-k
returns-else-y-k c =
    let a = c.args in
    let both : c.if-x-k.value ≡ all (eqb a.x a.k ∷ eqb a.y a.k ∷ []) = elim c.if-x-k.branch [
      | then-x-k w ↦ w.value-is ∙ first_holds _ _ (eq-eqb _ _ w.if-x-k.true) (all_one _)
      | else-x-k w ↦ w.value-is ∙ ne_eqb _ _ w.if-x-k.false ∙ first_fails _ _ (ne_eqb _ _ w.if-x-k.false)
    ] in
    part-fails (eqb a.x a.k ∷ eqb a.y a.k ∷ []) (eqb a.a a.b ∷ []) c.if-y-k.false (sym both ∙ c.if-y-k.false)
