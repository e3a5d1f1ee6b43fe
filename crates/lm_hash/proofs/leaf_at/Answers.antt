-- The four words have the bytes that they were read from.
use Prim.Native.Nat.{ℕ, ◌<◌}
use lib.ListN.{get_or}
use mathlib.Core.Path.{refl}
use mathlib.Core.List.{flat_map}
use Rattle.words.specs.BigEndian.{be}
use Rattle.lm_hash.specs.Identifier.{identifier}
use Rattle.lm_hash.proofs.Values.{four-words}
use Rattle.lm_hash.proofs.leaf_at.Goals as goal

pub returns : goal.returns
unfolding identifier flat_map be
returns c =
    let each : (i : ℕ) → get_or c.args.s.now i 0 < 256 = λ i. (c.type_inv.s i).fits in (
      simp (c.u32_at-4.ensures.0, c.u32_at-3.ensures.0, c.u32_at-2.ensures.0, c.u32_at.ensures.0)
          (four-words c.args.s.now c.args.at each c.requires),
      refl,
    )
