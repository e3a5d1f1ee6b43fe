-- The sum modulo 2^32.
use mathlib.Core.Path.{refl}
use Rattle.sha256_schedule.specs.Words.{◌⊞◌}
use Rattle.sha256_schedule.proofs.functions.add.Goals as goal

pub returns : goal.returns
unfolding ◌⊞◌
returns c = refl
