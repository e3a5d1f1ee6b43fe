-- The leaf's value, then every level above it; 2^h is not shifted out of a word.
use mathlib.Core.Path.{◌≡◌, ◌∙◌}
use Prim.Native.Nat.{◌/◌}
use native.Mathlib.Omega.{arith}
use lib.ListN.{length}
use lib.Pow.{pow_mono}
use Rattle.lm_tree.specs.Tree.{root, D-LEAF}
use Rattle.lm_format.proofs.Forms.{shifted_one}
use Rattle.lm_tree.proofs.root.Goals as goal

pub overflow_add-node : goal.overflow_add-node
overflow_add-node c =
    rw (shifted_one c.args.h c.requires.0) (omega (arith, pow_mono c.requires.0))

pub returns : goal.returns
unfolding root D-LEAF
returns c =
    let levels : length c.args.path.now / 32 ≡ c.args.h = omega arith in
    c.climb.ensures
    ∙ rw (c.tagged-value.ensures, c.bytes-key.ensures, shifted_one c.args.h c.requires.0, levels)
