-- A word a turn.
use mathlib.Core.Path.{refl}
use native.Mathlib.Omega.{arith}
use Rattle.sha256_lanes.specs.Lane.{word_in}
use Rattle.sha256_lanes.proofs.Turns.{word_turn}
use Rattle.sha256_lanes.proofs.words_at.Goals as goal

pub loop-j-init : goal.loop-j-init
loop-j-init c = (refl, λ l m long high e n h. e n h)

pub word_at-requires : goal.word_at-requires
word_at-requires c = (omega arith, let e = c.loop-j.invariant.0 in omega arith)

pub loop-j-preserved : goal.loop-j-preserved
loop-j-preserved c =
    let a = c.args in
    let t = c.loop-j in (
      omega (arith, t.invariant.0),
      λ l m long high e n h.
          word_turn (word_in l t.w) _ m t.j long (omega arith) (omega arith) (t.invariant.1 l m long high e) (c.word_at.ensures l) n (omega arith),
    )

pub shape_of-w : goal.shape_of-w
shape_of-w c = let e = c.loop-j.invariant.0 in omega arith

pub returns : goal.returns
returns c = let t = c.loop-j in λ l m long high e n h. t.invariant.1 l m long high e n (omega arith)
