-- One record a turn: the order of the records that are left, from the term before, is that of all of them.
use mathlib.Core.Path.{◌≡◌}
use Rattle.log_chain.specs.Ends.{rising}
use Rattle.log_chain.specs.Records.{records_of}
use Rattle.log_terms.specs.Later.{records_after}
use Rattle.log_terms.proofs.terms_in_order.Given as goal

abbrev pub invariant-loop-i : goal.invariant-loop-i
invariant-loop-i l = rising l.low (records_after l.width l.records l.i l.s) ≡ rising 1 (records_of l.width l.records l.s)
