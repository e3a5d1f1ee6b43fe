-- One level a turn: the siblings that are left give what all of them give.
use mathlib.Core.Path.{◌≡◌}
use Prim.Native.Nat.{◌/◌}
use lib.ListN.{length}
use Rattle.std.specs.Slice.Iter.{chunks_exact_rest, chunks_exact_size}
use Rattle.sha256.specs.Sha256.{bytes_of}
use Rattle.lm_hash.specs.Identifier.{identifier}
use Rattle.lm_tree.specs.Tree.{climb}
use Rattle.lm_tree.proofs.climb.Given as goal

abbrev pub invariant-loop-sibling : goal.invariant-loop-sibling
invariant-loop-sibling l =
    let left = chunks_exact_rest l.sibling-iterator in
    (chunks_exact_size l.sibling-iterator ≡ 32)
    × (climb (identifier l.leaf) (length left / 32) l.node (bytes_of l.t) left
    ≡ climb (identifier l.leaf) (length l.path / 32) l.start (bytes_of l.initial.t) l.path)
