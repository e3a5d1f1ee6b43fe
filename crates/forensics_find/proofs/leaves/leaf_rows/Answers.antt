-- One replica a turn: the rows of the replicas before it are done.
use mathlib.Core.Path.{◌≡◌, refl, ap₂, ◌∙◌}
use mathlib.Core.List.{List}
use Prim.Native.Nat.{ℕ, ◌+◌, ◌-◌}
use native.Mathlib.Omega.{arith}
use lib.ListN.{get_or}
use Rattle.std.specs.Prelude.{None}
use Rattle.forensics_charges.specs.Charges.{Row, rows_by, least, charge_of, row_at}
use Rattle.forensics_find.proofs.Replicas.{fill, filled}
use Rattle.forensics_find.proofs.leaves.leaf_rows.Goals as goal

-- the row of replica i + 1 stands at place i
row_here : (rows : List Row) (i : ℕ) → charge_of (get_or rows i None) ≡ row_at rows (i + 1)
unfolding row_at
row_here rows i = let place : i + 1 - 1 ≡ i = omega arith in rw place

pub loop-i-init : goal.loop-i-init
unfolding rows_by
loop-i-init c = (record { few = omega arith; long = refl; done = refl }, refl)

pub replica_row-leaves-requires : goal.replica_row-leaves-requires
replica_row-leaves-requires c =
    let p = c.requires in
    let l = c.loop-i in
    (p.0, p.1, omega arith, omega arith, omega (arith, l.invariant.1))

pub loop-i-preserved : goal.loop-i-preserved
loop-i-preserved c =
    let l = c.loop-i in (
      fill _ l.out l.i _ l.invariant.0 c.loop-i-test.true
          (c.lower_row.ensures ∙ ap₂ least (row_here _ l.i) c.replica_row-leaves.ensures),
      c.replica_row-leaves.auto.buffer ∙ l.invariant.1,
    )

pub returns : goal.returns
returns c = filled _ c.loop-i.out c.loop-i.i c.loop-i.invariant.0 c.loop-i-test.false
