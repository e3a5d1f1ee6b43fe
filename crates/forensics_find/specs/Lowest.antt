-- The lowest charge of many terms, from the row that a call gives of each.
use Rattle.std.specs.Prelude.{◌≡◌}
use mathlib.Core.List.{List, flat_map}
use Rattle.replica.specs.Charges.{Charge}
use Rattle.forensics.specs.Findings.{lowest}
use Rattle.forensics_charges.specs.declared.Tenure.{Tenure}
use Rattle.forensics_charges.specs.Charges.{Row, charge_of}

-- a call gives of each term the lowest of its charges
abbrev pub GivesLowest : (Tenure → Row → Type 0) → (Tenure → List Charge) → Type 0
GivesLowest gives charges = (x : Tenure) (row : Row) → gives x row → charge_of row ≡ lowest (charges x)

-- a row has the lowest charge of all terms, whatever the charges are of which the call gives the lowest
abbrev pub IsLowest : (Tenure → Row → Type 0) → List Tenure → Row → Type 0
IsLowest gives terms row =
    (charges : Tenure → List Charge) → GivesLowest gives charges
    → charge_of row ≡ lowest (flat_map charges terms)
