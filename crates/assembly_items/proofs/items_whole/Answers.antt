-- One item a turn: what is left of the bag is whole where the bag is.
use mathlib.Core.Path.{refl, sym, ◌∙◌}
use native.Mathlib.Omega.{arith}
use Rattle.assembly_items.proofs.Items.{stands, refused-broken, whole-next, whole-end}
use Rattle.assembly_items.proofs.items_whole.Goals as goal

pub loop-at-init : goal.loop-at-init
loop-at-init c = (omega arith, refl)

pub returns-in_default : goal.returns-in_default
returns-in_default c =
    let a = c.args in
    sym (refused-broken a.width a.size a.items.now c.loop-at.at (omega arith) (sym c.read.ensures ∙ c.in_default.is))
    ∙ c.loop-at.invariant.1

pub loop-at-smaller : goal.loop-at-smaller
loop-at-smaller c =
    let a = c.args in
    let here = stands a.width a.size a.items.now c.loop-at.at (sym c.read.ensures ∙ c.in-Some.is) in
    omega (arith, here)

pub loop-at-preserved : goal.loop-at-preserved
loop-at-preserved c =
    let a = c.args in
    let said = sym c.read.ensures ∙ c.in-Some.is in (
      (stands a.width a.size a.items.now c.loop-at.at said).inside,
      sym (whole-next a.width a.size a.items.now c.loop-at.at (omega arith) said) ∙ c.loop-at.invariant.1,
    )

pub returns : goal.returns
returns c =
    let a = c.args in
    let l = c.loop-at in
    sym (whole-end a.width a.size a.items.now l.at (omega arith)) ∙ l.invariant.1
