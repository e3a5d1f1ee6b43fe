-- What is assembled, by the rows that were taken.
-- Assumes nothing.
use mathlib.Core.Path.{◌≡◌, ◌∙◌}
use mathlib.Core.List.{List, map}
use mathlib.Core.Option.{some}
use Prim.Native.Nat.{ℕ, ◌*◌}
use lib.ListN.{length, drop}
use Rattle.roster.specs.Roster.{replicas, signature_size}
use Rattle.log_chain.specs.Log.{version1}
use Rattle.log_chain.specs.Runs.{runs}
use Rattle.submission.specs.Validate.{form_of}
use Rattle.submission_encoding.specs.Encoding.{encode}
use Rattle.assembly.specs.Choice.{leads_for, commit_to}
use Rattle.assembly.specs.Assembly.{records_given, items_given, view_with, assembled, assembled_view, log_of}
use Rattle.assembly.proofs.Claim.{all-led}
use Rattle.assembly_copies.specs.Rows.{taken_size, leads_in, commit_in}
use Rattle.assembly_writer.specs.Written.{view_taken, bytes_taken}
use Rattle.assembly_service.specs.Taken.{plan_of}

module _ (roster log item_bytes : List ℕ) where
  -- every term has one: the rows' bytes
  pub all-taken : (taken : List ℕ) (count : ℕ)
      → leads_for (form_of roster) roster (items_given roster item_bytes) (runs (records_given roster log))
      ≡ some (leads_in (signature_size roster) item_bytes (form_of roster) (replicas roster) taken (runs (records_given roster log)))
      → commit_to (form_of roster) roster (items_given roster item_bytes) (length (records_given roster log)) (records_given roster log)
      ≡ commit_in (signature_size roster) item_bytes (replicas roster) (drop (taken_size * count) taken)
      → assembled roster log item_bytes ≡ some (bytes_taken roster log item_bytes (plan_of roster log count) taken)
  unfolding assembled assembled_view view_with bytes_taken view_taken plan_of form_of version1 log_of
  all-taken taken count leaders commit =
      let ls = leads_in (signature_size roster) item_bytes (form_of roster) (replicas roster) taken (runs (records_given roster log)) in
      all-led roster log item_bytes ls leaders
      ∙ (λ i. some (encode (signature_size roster) (form_of roster) 1 (record {
        log = records_given roster log;
        leaders = map (λ l. l.certificate) ls;
        stamps = map (λ l. l.stamp) ls;
        commit = commit i;
      })))
