-- The pointers that validating a submission hands on (document 02, W2): those of its committed records and of
-- its log.
use Rattle.std.specs.Prelude.{eqb, Result, IfOk}
use Rattle.refusal.specs.declared.Refusal.{Refusal}
use Rattle.refusal.specs.Refusals.{number_of}
use Rattle.log_chain.specs.Log.{Form}
use Rattle.log_terms.specs.declared.LogPointers.{LogPointers}
use Rattle.log_terms.specs.Pointed.{PointersOf, PointersIf}
use Rattle.submission.specs.View.{View, committed}

abbrev pub PointersHanded : Form → View → Result LogPointers Refusal → Type 0
PointersHanded form v validated = IfOk validated (PointersOf form (committed v) v.log)

-- with number 0 they are those, otherwise pointer 0 twice
abbrev pub PointersGiven : Form → View → Result LogPointers Refusal → LogPointers → Type 0
PointersGiven form v validated p =
    PointersIf (eqb (number_of validated) 0) form (committed v) v.log p
