-- One word a turn: four bytes more are the next word's.
-- A loop that fills a buffer, with the needs of any such loop; the step that is its own is `put_step`.
use Prim.Native.Nat.{◌*◌}
use mathlib.Core.Path.{◌≡◌}
use mathlib.Core.List.{flat_map}
use lib.ListN.{length, take}
use Rattle.words.specs.BigEndian.{be}
use Rattle.sha256.proofs.bytes_of.Given as goal

abbrev pub invariant-loop-i : goal.invariant-loop-i
invariant-loop-i l =
    (length l.bytes ≡ 32) × (take (4 * l.i) l.bytes ≡ flat_map (be 4) (take l.i l.w))
