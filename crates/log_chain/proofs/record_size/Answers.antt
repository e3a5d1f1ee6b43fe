-- A term and a payload digest.
use native.Mathlib.Omega.{arith}
use Rattle.log_chain.specs.Records.{record_size}
use Rattle.log_chain.proofs.record_size.Goals as goal

pub returns : goal.returns
unfolding record_size
returns c = (omega arith, omega arith)
