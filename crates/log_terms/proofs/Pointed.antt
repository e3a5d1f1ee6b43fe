-- Pointers that hang on a test: where it is met, and where it is not.
-- Assumes nothing.
use mathlib.Core.Path.{◌≡◌}
use mathlib.Core.Bool.{Bool, true, false}
use mathlib.Core.List.{List, []}
use Rattle.log_chain.specs.Log.{Form, Record}
use Rattle.log_terms.specs.declared.LogPointers.{LogPointers}
use Rattle.log_terms.specs.Pointed.{PointersOf, PointersIf}

module _ (met : Bool) (form : Form) (upto log : List Record) {p : LogPointers} where
  pub pointers-met : met ≡ true → PointersIf met form upto log p → PointersOf form upto log p
  pointers-met e h = rw e at h

  pub pointers-unmet : met ≡ false → PointersIf met form upto log p → PointersOf form [] [] p
  pointers-unmet e h = rw e at h

  pub unmet-pointers : met ≡ false → PointersOf form [] [] p → PointersIf met form upto log p
  unmet-pointers e h = rw e h
