-- One item a turn: what is found so far, with what the items that are left have, is what all of them have. Every item is read, since the bag
-- is whole.
use Prim.Native.Nat.{◌-◌}
use lib.ListN.{length}
use Rattle.assembly_copies.proofs.Walks.{Walked}
use Rattle.assembly_copies.proofs.find_copies.Given as goal

abbrev pub invariant-loop-at : goal.invariant-loop-at
invariant-loop-at l = Walked l.roster l.items l.wanted l.sought (length l.initial.rows) l.rows l.at

abbrev pub decreases-loop-at : goal.decreases-loop-at
decreases-loop-at l = length l.items - l.at
