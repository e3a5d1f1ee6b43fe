-- Terms that are equal leave it to the indexes.
use native.Mathlib.Omega.{arith}
use Rattle.std.proofs.lemmas.Bool.Decides.{nat_tests}
use Rattle.log_chain.specs.Ends.{staler}
use Rattle.forensics_charges.proofs.rules.end_staler.Goals as goal

pub returns : goal.returns
unfolding staler
returns c = rw c.lt.ensures (grind (arith, nat_tests))
