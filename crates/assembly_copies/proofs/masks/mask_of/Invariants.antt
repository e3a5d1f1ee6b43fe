-- One place a turn, from the last one down: the mask so far is that of the places passed, and has a bit for each.
use mathlib.Core.Path.{◌≡◌}
use mathlib.Core.List.{List}
use Prim.Native.Nat.{ℕ, ◌-◌, ◌^◌, ◌<◌}
use lib.ListN.{drop}
use Rattle.submission_encoding.specs.Copies.{signers_of}
use Rattle.assembly_copies.specs.Rows.{copies_at}
use Rattle.assembly_copies.proofs.masks.mask_of.Given as goal

abbrev pub invariant-loop-k : goal.invariant-loop-k
invariant-loop-k l =
    (l.mask < 2 ^ (l.n - l.k)) × ((S : ℕ) (item_bytes : List ℕ) → l.mask ≡ signers_of (copies_at S item_bytes (l.n - l.k) (drop l.k l.places)))
