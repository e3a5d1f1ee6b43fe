-- A row has at most 265 chains.
use mathlib.Core.Path.{refl}
use native.Mathlib.Omega.{arith}
use Rattle.lm_digits.proofs.Rows.{few}
use Rattle.lm_format.specs.Format.{one_time_bytes}
use Rattle.lm_format.proofs.one_time_size.Goals as goal

pub overflow_add-result : goal.overflow_add-result
overflow_add-result c = omega (arith, few c.args.o c.requires)

pub overflow_mul-result : goal.overflow_mul-result
overflow_mul-result c = omega (arith, few c.args.o c.requires)

pub returns : goal.returns
unfolding one_time_bytes
returns c = (refl, omega (arith, few c.args.o c.requires))
