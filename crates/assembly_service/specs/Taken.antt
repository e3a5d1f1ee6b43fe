-- What the checks leave known, and what the rows that were taken stand for.
use Rattle.std.specs.Prelude.{Option, Some, None, ◌≡◌, true, List, ℕ, ◌/◌, length}
use Rattle.std.proofs.Math.Option as maybe
use Rattle.roster.specs.Roster.{replicas, signature_size, roster_number}
use Rattle.log_chain.specs.Records.{record_size}
use Rattle.log_chain.specs.Ends.{rising}
use Rattle.submission.specs.Validate.{form_of}
use Rattle.assembly.specs.Items.{whole}
use Rattle.assembly.specs.Assembly.{log_counted, records_given, assembled}
use Rattle.assembly_writer.specs.declared.Plan.{Plan}
use Rattle.assembly_writer.specs.Written.{bytes_taken, Planned}

-- ---- the checks

-- 2 to 4, 8, 11 and 19 are met
pub record Checked (roster log item_bytes : List ℕ) : Type 0 where
  pub fine : roster_number roster ≡ 0
  pub counts : log_counted (form_of roster).term_bytes log ≡ true
  pub order : rising 1 (records_given roster log) ≡ true
  pub items : whole (form_of roster).term_bytes (signature_size roster) item_bytes ≡ true

-- ---- the rows

unfoldable pub plan_of : List ℕ → List ℕ → ℕ → Plan
plan_of roster log leaders =
    let w = (form_of roster).term_bytes in
    record {
      width = w;
      size = signature_size roster;
      replicas = replicas roster;
      records = length log / record_size w;
      leaders = leaders;
    }

-- the bytes of the rows, if every term has a leader
unfoldable pub bytes_if : List ℕ → List ℕ → List ℕ → List ℕ → Option ℕ → maybe.Option (List ℕ)
bytes_if roster log item_bytes taken (Some count) =
    maybe.some (bytes_taken roster log item_bytes (plan_of roster log count) taken)
bytes_if roster log item_bytes taken None = maybe.none

-- and they can be written
unfoldable pub PlannedIf : List ℕ → List ℕ → List ℕ → List ℕ → List ℕ → Option ℕ → Type 0
PlannedIf roster log item_bytes votes taken (Some count) =
    Planned roster log item_bytes votes (plan_of roster log count) taken
PlannedIf roster log item_bytes votes taken None = Unit {0}

-- they are what is assembled
pub record RowsTaken (roster log item_bytes votes taken : List ℕ) (r : Option ℕ) : Type 0 where
  pub same : assembled roster log item_bytes ≡ bytes_if roster log item_bytes taken r
  pub planned : PlannedIf roster log item_bytes votes taken r
