-- A step of a chain: its message has 55 bytes, so that its digest takes one block.
-- Assumes nothing.
use mathlib.Core.Path.{◌≡◌, sym}
use mathlib.Core.List.{List, ◌++◌}
use Prim.Native.Nat.{ℕ}
use native.Mathlib.Omega.{arith}
use Rattle.words.specs.BigEndian.{be}
use Rattle.sha256.specs.declared.State.{State}
use Rattle.sha256.specs.Sha256.{initial, compress, bytes_of}
use Rattle.sha256.proofs.Blocks.{sha256-one}
use Rattle.lm_hash.specs.declared.Leaf.{Leaf}
use Rattle.lm_hash.specs.Identifier.{identifier}
use Rattle.lm_hash.specs.Tagged.{tagged}
use Rattle.lm_chain_blocks.specs.Block.{step_block}
use Rattle.lm_chain_blocks.proofs.Blocks.{step_length}
use Rattle.lm_chain.specs.Chain.{stepped}

pub step_result : (leaf : Leaf) (i j : ℕ) (t r s : State) (b : List ℕ) → r ≡ compress s b → s ≡ initial
    → b ≡ step_block leaf i j t
    → bytes_of r ≡ stepped (identifier leaf) leaf.q j i (bytes_of t)
unfolding stepped tagged step_block
step_result leaf i j t r s b e f g =
    let m = identifier leaf ++ be 4 leaf.q ++ be 2 i ++ (be 1 j ++ bytes_of t) in
    rw (e, f, g) (sym (sha256-one m 55 (step_length leaf i j t) (omega arith)))
