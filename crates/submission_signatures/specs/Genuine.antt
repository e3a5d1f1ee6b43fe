-- Check 15 on one signature, with terms of w bytes (document 01, "What stops an audit").
use Rattle.std.specs.Prelude.{Bool, List, ℕ}
use Rattle.roster.specs.Roster.{cluster}
use Rattle.log_chain.specs.Log.{with_terms}
use Rattle.submission.specs.View.{Slot}
use Rattle.submission.specs.Validate.{genuine}

abbrev pub genuine_in : ℕ → List ℕ → Slot → Bool
genuine_in w roster = genuine (with_terms w (cluster roster)) roster
