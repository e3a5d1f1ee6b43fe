-- One term a turn: those that are left lie inside, and the row so far and theirs give the row that is asked.
use mathlib.Core.List.{List, flat_map}
use Rattle.replica.specs.Charges.{Charge}
use Rattle.forensics.specs.Findings.{lowest}
use Rattle.forensics_charges.specs.declared.Tenure.{Tenure}
use Rattle.forensics_charges.specs.Charges.{charge_of}
use Rattle.forensics_find.specs.Tenures.{tenures_of}
use Rattle.forensics_find.specs.Lowest.{GivesLowest}
use Rattle.forensics_find.proofs.Left.{Inside, RowsLeft}
use Rattle.forensics_find.proofs.rows.lowest_of_terms.Given as goal

abbrev pub invariant-loop-later : goal.invariant-loop-later
invariant-loop-later g l =
    Inside l.width l.size l.s l.later l.at
    × ((f : Tenure → List Charge) → GivesLowest (goal.F-post g l.row) f
    → RowsLeft l.width l.size l.s f (lowest (flat_map f (tenures_of l.width l.size l.s))) l.later l.at (charge_of l.best))
