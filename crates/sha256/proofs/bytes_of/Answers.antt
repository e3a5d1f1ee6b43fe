-- One word a turn: four bytes more are the next word's.
-- A loop that fills a buffer, with the needs of any such loop; the step that is its own is `put_step`.
use Prim.Native.Nat.{◌<◌, ◌*◌}
use mathlib.Core.Path.{◌≡◌, refl, sym, ap, ◌∙◌}
use mathlib.Core.List.{flat_map}
use native.Mathlib.Omega.{arith}
use borrow.Author.Rules.{rules}
use lib.ListN.{length, get_or, take}
use lib.Seq.{take_all, length-sets}
use Rattle.words.specs.BigEndian.{be}
use Rattle.sha256.proofs.Output.{put_step}
use Rattle.sha256.proofs.bytes_of.Goals as goal

pub loop-i-init : goal.loop-i-init
unfolding flat_map
loop-i-init c = (search rules, refl)

pub slice_bounds-put_u32-end : goal.slice_bounds-put_u32-end
slice_bounds-put_u32-end c = sym c.loop-i.invariant.0

pub loop-i-preserved : goal.loop-i-preserved
loop-i-preserved c =
    let l = c.loop-i in
    let w = c.args.w in
    let inside : l.i < length w = search rules in
    let put = c.put_u32.ensures in (
      rw put (length-sets l.bytes (4 * l.i) (be 4 (get_or w l.i 0)) ∙ l.invariant.0),
      rw put (put_step l.bytes w l.i inside (omega arith) l.invariant.1),
    )

pub returns : goal.returns
returns c =
    let l = c.loop-i in
    let w = c.args.w in
    let end : l.i ≡ 8 = omega arith in
    let long : length w ≡ 8 = search rules in
    let all : take 32 l.bytes ≡ flat_map (be 4) (take 8 w) = rw end at l.invariant.1 in
    sym (take_all 32 l.bytes (omega arith)) ∙ all ∙ ap (flat_map (be 4)) (take_all 8 w (omega arith))
