-- The levels of the first key's tree type, after what stands before the path.
use mathlib.Core.Path.{ap, ◌∙◌}
use Prim.Native.Nat.{ℕ}
use native.Mathlib.Omega.{arith}
use Rattle.lm_format.specs.Format.{height}
use Rattle.roster.specs.Roster.{levels}
use Rattle.roster.proofs.Accepted.{size_of_levels}
use Rattle.roster.proofs.signature_size.Goals as goal

pub returns : goal.returns
returns c =
    let e = c.levels.ensures.0 ∙ ap (λ (t : ℕ). levels (height t)) c.tree_type.ensures in
    (rw (e, size_of_levels), omega arith)
