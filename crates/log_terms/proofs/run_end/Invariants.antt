-- One record a turn: the term has not ended before record `end`, whose term is the first record's.
use mathlib.Core.Path.{◌≡◌}
use Rattle.log_chain.specs.Log.{last_term}
use Rattle.log_chain.specs.Runs.{runs_from}
use Rattle.log_chain.specs.Records.{records_of}
use Rattle.log_terms.specs.Later.{records_after, runs_left}
use Rattle.log_terms.proofs.run_end.Given as goal

abbrev pub invariant-loop-end : goal.invariant-loop-end
invariant-loop-end l =
    (l.term ≡ last_term (records_of l.width l.end l.s))
    × (runs_left l.width l.records l.i l.s ≡ runs_from (records_of l.width l.i l.s) (records_of l.width l.end l.s) (records_after l.width l.records l.end l.s))
