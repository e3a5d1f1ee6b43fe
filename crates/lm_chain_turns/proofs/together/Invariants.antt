-- A turn keeps what the chains come to.
use Prim.Native.Nat.{ℕ, ◌≤◌}
use mathlib.Core.Path.{◌≡◌}
use lib.ListN.{get_or}
use Rattle.lm_hash.specs.Identifier.{identifier}
use Rattle.lm_chain_turns.specs.Ahead.{ahead}
use Rattle.lm_chain_turns.proofs.together.Given as goal

abbrev pub invariant-loop : goal.invariant-loop
invariant-loop l =
    (k : ℕ) → (get_or l.steps k 0 ≤ l.last)
    × (ahead (identifier l.leaf) l.leaf.q l.last l.steps l.v k ≡ ahead (identifier l.leaf) l.leaf.q l.last l.initial.steps l.initial.v k)
