-- A step of each chain a turn, and the blocks of the next.
use Prim.Native.Nat.{ℕ, ◌+◌, ◌<◌}
use mathlib.Core.Path.{◌≡◌}
use lib.ListN.{length, get_or, take}
use Rattle.sha256.specs.declared.State.{State}
use Rattle.sha256.specs.Sha256.{rounds, initial, bytes_of}
use Rattle.lm_hash.specs.declared.Leaf.{Leaf}
use Rattle.lm_hash.specs.Identifier.{identifier}
use Rattle.sha256_lanes.specs.Lane.{Lane, lane, word_in}
use Rattle.lm_chain_blocks.specs.Block.{step_block}
use Rattle.lm_chain.specs.Chain.{chain}
use Rattle.lm_chain.proofs.run.Given as goal

abbrev pub invariant-loop-m : goal.invariant-loop-m
invariant-loop-m now =
    (length now.w ≡ 256) × (length now.k ≡ 256)
    × ((l : Lane) (leaf : Leaf) → ((i j : ℕ) (t : State) → now.u ≡ rounds 4 0 (take 4 (step_block leaf i j t)) initial)
    → ((a : ℕ) → a < 16 → word_in l now.initial.w a ≡ get_or (step_block leaf (lane l now.i) (lane l now.j) (lane l now.initial.s)) a 0)
    → ((a : ℕ) → a < 16 → word_in l now.w a ≡ get_or (step_block leaf (lane l now.i) (lane l now.j + now.m) (lane l now.s)) a 0)
    × (bytes_of (lane l now.s) ≡ chain (identifier leaf) leaf.q (lane l now.i) now.m (lane l now.j) (bytes_of (lane l now.initial.s))))
