-- One block a turn: what is left of the bytes gives what all of them give.
use mathlib.Core.Path.{◌≡◌}
use Rattle.std.specs.Slice.Iter.{chunks_exact_rest, chunks_exact_size}
use Rattle.sha256.specs.Sha256.{hash}
use Rattle.sha256.proofs.State.absorb_all.Given as goal

abbrev pub invariant-loop-block : goal.invariant-loop-block
invariant-loop-block l =
    (chunks_exact_size l.block-iterator ≡ 64) × (hash l.s (chunks_exact_rest l.block-iterator) ≡ hash l.initial.s l.bytes)
