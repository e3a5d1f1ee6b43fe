-- One value a turn.
use Prim.Native.Nat.{ℕ, ◌*◌, ◌<◌}
use mathlib.Core.Path.{◌≡◌}
use lib.ListN.{length, take, drop}
use Rattle.lm_chain_values.specs.Values.{value_at}
use Rattle.lm_chain_values.proofs.load.Given as goal

abbrev pub invariant-loop-i : goal.invariant-loop-i
invariant-loop-i l = (length l.v ≡ 2120) × ((k : ℕ) → k < l.i → value_at l.v k ≡ take 32 (drop (32 * k) l.y))
