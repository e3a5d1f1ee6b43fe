-- A mask has at most sixteen ones, so the product fits.
use mathlib.Core.Path.{refl}
use native.Mathlib.Omega.{arith}
use lib.Count.{ones-le}
use Rattle.submission_parts.proofs.Readings.{signatures-le}
use Rattle.submission_parts.proofs.signatures_size.Goals as goal

pub overflow_cast-result : goal.overflow_cast-result
overflow_cast-result c = omega (arith, ones-le 16 c.args.mask (omega arith))

pub overflow_mul-result : goal.overflow_mul-result
overflow_mul-result c = omega (arith, signatures-le c.args.size c.args.mask c.requires (omega arith))

pub returns : goal.returns
returns c = (refl, signatures-le c.args.size c.args.mask c.requires (omega arith))
