-- A step of the chain a turn.
use Prim.Native.Nat.{◌-◌}
use mathlib.Core.Path.{◌≡◌}
use Rattle.sha256.specs.Sha256.{bytes_of}
use Rattle.lm_hash.specs.Identifier.{identifier}
use Rattle.lm_chain.specs.Chain.{chain}
use Rattle.lm_chain_turns.proofs.finish.Given as goal

abbrev pub invariant-loop-j : goal.invariant-loop-j
invariant-loop-j l =
    chain (identifier l.leaf) l.leaf.q l.i (l.last - l.j) l.j (bytes_of l.t)
    ≡ chain (identifier l.leaf) l.leaf.q l.i (l.last - l.initial.j) l.initial.j (bytes_of l.initial.t)
