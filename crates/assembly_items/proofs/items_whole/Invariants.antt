-- One item a turn: what is left of the bag is whole where the bag is.
use mathlib.Core.Path.{◌≡◌}
use Prim.Native.Nat.{◌-◌, ◌≤◌}
use lib.ListN.{length, drop}
use Rattle.assembly.specs.Items.{whole}
use Rattle.assembly_items.proofs.items_whole.Given as goal

abbrev pub invariant-loop-at : goal.invariant-loop-at
invariant-loop-at l = (l.at ≤ length l.items) × (whole l.width l.size (drop l.at l.items) ≡ whole l.width l.size l.items)

abbrev pub decreases-loop-at : goal.decreases-loop-at
decreases-loop-at l = length l.items - l.at
