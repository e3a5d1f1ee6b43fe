-- A row a turn.
use mathlib.Core.Path.{◌≡◌}
use mathlib.Core.List.{List}
use Prim.Native.Nat.{ℕ, ◌+◌, ◌*◌, ◌≤◌}
use lib.ListN.{length}
use Rattle.assembly_terms.specs.Wanted.{vote_head, vote_tail}
use Rattle.assembly_writer.specs.Parts.{lead_most, RowsInside}
use Rattle.assembly_writer.proofs.Lengths.{leads_length}
use Rattle.assembly_writer.proofs.sizes.leads_size.Given as goal

abbrev pub invariant-loop-t : goal.invariant-loop-t
invariant-loop-t l =
    (l.at ≤ lead_most * l.t)
    × ((item_bytes votes : List ℕ) → RowsInside item_bytes l.plan l.taken → vote_head + vote_tail l.plan.width * l.plan.leaders ≤ length votes
    → l.at ≡ leads_length item_bytes votes l.taken l.plan l.t)
