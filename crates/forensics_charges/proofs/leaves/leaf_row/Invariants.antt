-- One use a turn.
use Rattle.forensics_charges.specs.Charges.{charge_of}
use Rattle.forensics_charges.proofs.LeafRows.{UsesLeft}
use Rattle.forensics_charges.proofs.leaves.leaf_row.Given as goal

abbrev pub invariant-loop-i : goal.invariant-loop-i
invariant-loop-i l = UsesLeft l.buffer l.n l.i (charge_of l.best)
