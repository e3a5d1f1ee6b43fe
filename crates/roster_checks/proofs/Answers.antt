-- The checks of a roster one after the other: the first that is not met, or none, gives the number.
-- Assumes nothing.
use mathlib.Core.Path.{◌≡◌}
use mathlib.Core.Bool.{true, false}
use mathlib.Core.List.{List}
use Prim.Native.Nat.{ℕ}
use Rattle.refusal.specs.Checks.{check, refusal}
use Rattle.roster.specs.Roster.{replicas, every_replica, sized, typed, single, roster_number}

module _ (roster : List ℕ) where
  pub unsized : sized roster ≡ false → 2 ≡ roster_number roster
  unfolding roster_number refusal check
  unsized e = rw e

  module _ (size : sized roster ≡ true) where
    pub untyped : every_replica (replicas roster) (typed roster) ≡ false → 3 ≡ roster_number roster
    unfolding roster_number refusal check
    untyped e = rw (size, e)

    module _ (types : every_replica (replicas roster) (typed roster) ≡ true) where
      pub duplicate : every_replica (replicas roster) (single roster) ≡ false → 4 ≡ roster_number roster
      unfolding roster_number refusal check
      duplicate e = rw (size, types, e)

      pub accept : every_replica (replicas roster) (single roster) ≡ true → 0 ≡ roster_number roster
      unfolding roster_number refusal check
      accept e = rw (size, types, e)
