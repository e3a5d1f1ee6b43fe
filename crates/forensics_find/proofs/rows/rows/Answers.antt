-- One replica a turn: the rows of the replicas before it are done.
use mathlib.Core.Path.{refl}
use native.Mathlib.Omega.{arith}
use Rattle.forensics_charges.specs.Charges.{rows_by}
use Rattle.forensics_find.proofs.Replicas.{fill, filled}
use Rattle.forensics_find.proofs.rows.rows.Goals as goal

pub loop-i-init : goal.loop-i-init
unfolding rows_by
loop-i-init c = record { few = omega arith; long = refl; done = refl }

pub loop-i-preserved : goal.loop-i-preserved
loop-i-preserved c =
    fill _ c.loop-i.place-items c.loop-i.i _ c.loop-i.invariant c.loop-i-test.true
    c.row.ensures

pub returns : goal.returns
returns c = filled _ c.loop-i.place-items c.loop-i.i c.loop-i.invariant c.loop-i-test.false
