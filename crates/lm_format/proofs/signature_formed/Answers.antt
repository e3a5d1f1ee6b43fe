-- The tests are those of the definition, in its order.
use native.Mathlib.Omega.{arith}
use Rattle.std.proofs.lemmas.Grind.{common_steps}
use Rattle.lm_format.specs.Format.{path_at, signature_length}
use Rattle.lm_format.specs.Formed.{formed}
use Rattle.lm_format.proofs.signature_formed.Goals as goal

pub returns-then-u32_at-2 : goal.returns-then-u32_at-2
unfolding formed signature_length path_at
returns-then-u32_at-2 c = grind (arith, common_steps)

pub returns-else-u32_at-2 : goal.returns-else-u32_at-2
unfolding formed signature_length path_at
returns-else-u32_at-2 c = grind (arith, common_steps)
