-- Rows by the charges that they mean. Assumes nothing.
use mathlib.Core.Path.{◌≡◌}
use mathlib.Core.Bool.{true, false}
use mathlib.Core.List.{List, ◌++◌}
use mathlib.Core.Option.{Option}
use Rattle.std.specs.Prelude.{Some}
use Rattle.log_chain.specs.Ends.{staler}
use Rattle.replica.specs.Charges.{Charge}
use Rattle.forensics.specs.Findings.{rank, sooner, lower, lowest}
use Rattle.forensics_charges.specs.declared.Charge as declared
use Rattle.forensics_charges.specs.Charges.{least, meaning, charge_of}
use Rattle.forensics_charges.proofs.Lowest.{lowest-append}

-- the lower of two rows that name somebody
module _ (c d : declared.Charge) where
  pub second-lower : staler (rank d.rule) d.term (rank c.rule) c.term ≡ true → charge_of (Some d) ≡ least (charge_of (Some c)) (charge_of (Some d))
  unfolding least lower sooner meaning charge_of
  second-lower e = rw e

  pub first-lower : staler (rank d.rule) d.term (rank c.rule) c.term ≡ false → charge_of (Some c) ≡ least (charge_of (Some c)) (charge_of (Some d))
  unfolding least lower sooner meaning charge_of
  first-lower e = rw e

-- the rows of two lists of charges give that of both
pub joined : (xs ys : List Charge) {x y r : Option Charge} → x ≡ lowest xs → y ≡ lowest ys → r ≡ least x y → r ≡ lowest (xs ++ ys)
joined xs ys ex ey er = rw (lowest-append xs ys, ← ex, ← ey) er
