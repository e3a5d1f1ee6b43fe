-- Check 8 by its tests, for a record's size as the code has it.
-- Assumes nothing.
use mathlib.Core.Path.{◌≡◌, ◌∙◌}
use mathlib.Core.Bool.{Bool, false}
use mathlib.Core.List.{List}
use Prim.Native.Nat.{ℕ, ◌/◌, ◌%◌, ◌≤◌, ◌<◌}
use native.Mathlib.Omega.{arith}
use borrow.Author.Tests.{eq-eqb, ne_eqb, le-leb, lt-leb}
use lib.Dec.{leb}
use lib.ListN.{length}
use Rattle.refusal.proofs.Laws.{first_fails, first_holds, all_one}
use Rattle.log_chain.specs.Records.{record_size, records_of}
use Rattle.log_distinct.specs.Distinct.{distinct}
use Rattle.submission.specs.Validate.{record_most, leader_most}
use Rattle.assembly.specs.Assembly.{log_of, log_counted}

pub some_bytes : (w : ℕ) → 0 < record_size w
unfolding record_size
some_bytes w = omega arith

module _ (w : ℕ) (log : List ℕ) where
  pub log-cut : (length log % record_size w ≡ 0 → ⊥) → false ≡ log_counted w log
  unfolding log_counted
  log-cut h = first_fails _ _ (ne_eqb _ _ h)

  pub log-long : length log % record_size w ≡ 0 → record_most < length log / record_size w → false ≡ log_counted w log
  unfolding log_counted
  log-long e h = first_holds _ _ (eq-eqb _ _ e) (first_fails _ _ (lt-leb _ _ h))

  pub log-terms : {r : Bool} → length log % record_size w ≡ 0 → length log / record_size w ≤ record_most
      → r ≡ leb (distinct (records_of w (length log / record_size w) log)) leader_most → r ≡ log_counted w log
  unfolding log_counted log_of
  log-terms e h d = first_holds _ _ (eq-eqb _ _ e) (first_holds _ _ (le-leb _ _ h) (d ∙ all_one _))
