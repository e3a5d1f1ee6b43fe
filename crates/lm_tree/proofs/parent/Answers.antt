-- The children's bytes are hashed under the parent's number.
use mathlib.Core.Path.{ap, ◌∙◌}
use Prim.Native.Nat.{◌/◌}
use Rattle.lm_hash.specs.Identifier.{identifier}
use Rattle.lm_hash.specs.Tagged.{tagged}
use Rattle.lm_tree.specs.Tree.{parent, D-INTR}
use Rattle.lm_tree.proofs.parent.Goals as goal

pub returns : goal.returns
unfolding parent D-INTR
returns c =
    let a = c.args in
    c.tagged.ensures ∙ ap (tagged (identifier a.leaf) (a.node / 2) D-INTR) c.children-both.ensures
