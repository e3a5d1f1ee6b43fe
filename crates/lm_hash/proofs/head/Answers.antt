-- The bytes of the eight words begin with those asked for.
use mathlib.Core.Path.{ap, ◌∙◌}
use lib.ListN.{take}
use Rattle.lm_hash.proofs.Values.{head_bytes}
use Rattle.lm_hash.proofs.head.Goals as goal

pub returns : goal.returns
returns c =
    let a = c.args in
    ap (take 22) c.bytes.ensures ∙ head_bytes a.leaf a.q a.d
