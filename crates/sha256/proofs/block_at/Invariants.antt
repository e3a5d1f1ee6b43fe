-- One word a turn, read at its place.
-- A loop that fills a buffer, with the needs of any such loop; the step that is its own is `parse_step`.
use mathlib.Core.Path.{◌≡◌}
use lib.ListN.{length, take, drop}
use Rattle.sha256.specs.Sha256.{parse}
use Rattle.sha256.proofs.block_at.Given as goal

abbrev pub invariant-loop-i : goal.invariant-loop-i
invariant-loop-i l = (length l.m ≡ 16) × (take l.i l.m ≡ parse l.i (drop l.at l.bytes))
