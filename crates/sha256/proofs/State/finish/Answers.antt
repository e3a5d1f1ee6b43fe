-- The padded end of the message is one block, or two where the length finds no room beside the last bytes.
use mathlib.Core.Path.{sym}
use native.Mathlib.Omega.{arith}
use Rattle.sha256.proofs.Padding.{one_block, two_blocks}
use Rattle.sha256.proofs.State.finish.Goals as goal

pub returns-then-tail-lt56 : goal.returns-then-tail-lt56
returns-then-tail-lt56 c =
    let a = c.args in
    simp (c.absorb.ensures, c.sealed.ensures, c.closed-end.ensures)
    (sym (one_block a.self a.tail.now a.total c.requires.0 c.requires.1 (omega arith)))

pub returns : goal.returns
returns c =
    let a = c.args in
    simp (
      c.absorb-3.ensures,
      c.sealed-2.ensures,
      c.absorb-2.ensures,
      c.block_at.ensures,
      c.closed-end.ensures,
    )
    (sym (two_blocks a.self a.tail.now a.total c.requires.0 c.requires.1 (omega arith)))
