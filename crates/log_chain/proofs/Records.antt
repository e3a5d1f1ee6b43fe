-- How many records there are, and that fewer of them lie inside too.
-- Assumes nothing.
use mathlib.Core.Path.{◌≡◌, refl, ap}
use mathlib.Core.List.{List}
use Prim.Native.Nat.{ℕ, zero, suc, ◌*◌, ◌≤◌}
use native.Mathlib.Nat.{le_trans, mul-le-mul_left}
use lib.ListN.{length, drop}
use Rattle.log_chain.specs.Records.{record_size, records_of}

pub length-records : (w count : ℕ) (bytes : List ℕ) → length (records_of w count bytes) ≡ count
unfolding records_of
length-records w zero bytes = refl
length-records w (suc count) bytes = ap suc (length-records w count (drop (record_size w) bytes))

pub fewer_inside : (w i count : ℕ) {most : ℕ} → i ≤ count → record_size w * count ≤ most → record_size w * i ≤ most
fewer_inside w i count few h = le_trans (mul-le-mul_left (record_size w) few) h
