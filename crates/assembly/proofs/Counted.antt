-- What check 8 leaves known of a log: whole records, not above 4,096 of them, and not above 64 distinct terms.
-- Assumes nothing.
use mathlib.Core.Path.{◌≡◌}
use mathlib.Core.Bool.{true}
use mathlib.Core.List.{List}
use Prim.Native.Nat.{ℕ, ◌/◌, ◌%◌, ◌≤◌}
use borrow.Author.Tests.{eqb-true, leb-true}
use lib.ListN.{length}
use Rattle.refusal.proofs.Laws.{all_cons}
use Rattle.log_chain.specs.Records.{record_size}
use Rattle.log_chain.specs.Ends.{rising}
use Rattle.log_chain.specs.Runs.{runs}
use Rattle.log_distinct.specs.Distinct.{distinct}
use Rattle.log_distinct.proofs.Distinct.{distinct-runs}
use Rattle.submission.specs.Validate.{record_most, leader_most}
use Rattle.assembly.specs.Assembly.{log_of, log_counted}

module _ (w : ℕ) (log : List ℕ) (counted : log_counted w log ≡ true) where
  pub log-tests : (length log % record_size w ≡ 0) × (length log / record_size w ≤ record_most) × (distinct (log_of w log) ≤ leader_most)
  unfolding log_counted
  log-tests =
      let ends = all_cons _ _ counted in
      let records = all_cons _ _ ends.1 in
      let terms = all_cons _ _ records.1 in
      (eqb-true _ _ ends.0, leb-true _ _ records.0, leb-true _ _ terms.0)

  -- terms that rise are distinct
  pub terms-few : rising 1 (log_of w log) ≡ true → length (runs (log_of w log)) ≤ leader_most
  terms-few order = rw (← distinct-runs (log_of w log) order) log-tests.2
