-- The order of the terms, one record at a time: the record here is below the one before, or it is not, or none is left.
-- Assumes nothing.
use mathlib.Core.Path.{◌≡◌}
use mathlib.Core.Bool.{Bool, true, false}
use mathlib.Core.List.{List}
use Prim.Native.Nat.{ℕ, suc, ◌≤◌, ◌<◌}
use borrow.Author.Tests.{le-leb, lt-leb}
use Rattle.log_chain.specs.Ends.{rising}
use Rattle.log_terms.specs.Later.{records_after}
use Rattle.log_terms.proofs.Records.{record_at, after_first, after_last}

module _ (w count i low : ℕ) (s : List ℕ) {b : Bool} (rest : rising low (records_after w count i s) ≡ b) where
  pub falls : i < count → (record_at w s i).term < low → false ≡ b
  unfolding rising
  falls h e = rw (after_first w count i s h, lt-leb low (record_at w s i).term e) at rest

  pub climbs : i < count → low ≤ (record_at w s i).term → rising (record_at w s i).term (records_after w count (suc i) s) ≡ b
  unfolding rising
  climbs h e = rw (after_first w count i s h, le-leb low (record_at w s i).term e) at rest

  pub risen : count ≤ i → true ≡ b
  unfolding rising
  risen h = rw (after_last w count i s h) at rest
