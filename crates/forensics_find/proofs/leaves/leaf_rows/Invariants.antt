-- One replica a turn: the rows of the replicas before it are done.
use mathlib.Core.Path.{◌≡◌}
use lib.ListN.{length}
use Rattle.forensics_charges.specs.Charges.{least, row_at}
use Rattle.forensics_find.specs.Leaves.{leaf_row}
use Rattle.forensics_find.proofs.Replicas.{Filled}
use Rattle.forensics_find.proofs.leaves.leaf_rows.Given as goal

abbrev pub invariant-loop-i : goal.invariant-loop-i
invariant-loop-i l =
    Filled (λ k. least (row_at l.row-items k) (leaf_row l.roster l.a l.b l.one l.other k)) l.out l.i × (length l.buffer ≡ 19608)
