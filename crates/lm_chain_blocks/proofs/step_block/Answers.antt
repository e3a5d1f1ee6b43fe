-- The sixteen words are those of the padded message: each by its own promise.
use mathlib.Core.Path.{sym}
use Prim.Native.Nat.{◌^◌, ◌<◌}
use Rattle.lm_chain_blocks.proofs.Blocks.{step_words}
use borrow.Author.Rules.{rules}
use Rattle.lm_chain_blocks.proofs.step_block.Goals as goal

pub returns : goal.returns
returns c =
    let l = c.args.leaf in
    let t = c.args.t in
    let h0 : l.i0 < 2 ^ 32 = search rules in
    let h1 : l.i1 < 2 ^ 32 = search rules in
    let h2 : l.i2 < 2 ^ 32 = search rules in
    let h3 : l.i3 < 2 ^ 32 = search rules in
    let hq : l.q < 2 ^ 32 = search rules in
    simp (
      c.last.ensures,
      c.joined-7.ensures,
      c.joined-6.ensures,
      c.joined-5.ensures,
      c.joined-4.ensures,
      c.joined-3.ensures,
      c.joined-2.ensures,
      c.joined.ensures,
      c.first.ensures,
    )
    (sym (step_words l c.args.i c.args.j t h0 h1 h2 h3 hq))
