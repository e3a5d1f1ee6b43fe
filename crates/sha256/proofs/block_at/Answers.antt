-- One word a turn, read at its place.
-- A loop that fills a buffer, with the needs of any such loop; the step that is its own is `parse_step`.
use Prim.Native.Nat.{◌*◌}
use mathlib.Core.Path.{◌≡◌, refl, sym, ◌∙◌}
use native.Mathlib.Omega.{arith}
use borrow.Author.Rules.{rules}
use lib.ListN.{drop, length-set}
use lib.Seq.{take_all}
use Rattle.sha256.specs.Sha256.{parse}
use Rattle.words.proofs.Laws.{number_at-drop}
use Rattle.sha256.proofs.Blocks.{parse_step}
use Rattle.sha256.proofs.block_at.Goals as goal

pub loop-i-init : goal.loop-i-init
unfolding parse
loop-i-init c = (search rules, refl)

pub loop-i-preserved : goal.loop-i-preserved
loop-i-preserved c =
    let l = c.loop-i in
    let a = c.args in
    let bytes = a.bytes.now in
    let word = c.u32_at.ensures.0 ∙ sym (number_at-drop 4 bytes a.at (4 * l.i)) in (
      simp length-set l.invariant.0,
      parse_step l.i (drop a.at bytes) l.m c.u32_at.result (omega arith) word l.invariant.1,
    )

pub returns : goal.returns
returns c =
    let l = c.loop-i in
    let end : l.i ≡ 16 = omega arith in
    sym (take_all 16 l.m (omega arith)) ∙ (rw end at l.invariant.1)
