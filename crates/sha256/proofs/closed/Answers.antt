-- The last bytes stand where the zeros begin, and the byte 128 after them.
use mathlib.Core.Path.{ap, ◌∙◌}
use mathlib.Core.List.{List, ◌++◌}
use Prim.Native.Nat.{ℕ}
use lib.ListN.{length, drop, set, replicate}
use Rattle.sha256.proofs.Padding.{fill_next}
use Rattle.sha256.proofs.closed.Goals as goal

pub returns : goal.returns
returns c =
    let tail = c.args.tail.now in
    ap (λ (l : List ℕ). set (l ++ drop (length tail) (replicate 64 0)) (length tail) 128) c.copy_from_slice.ensures.after
    ∙ fill_next tail 128 c.requires
