-- The rows that were taken, from what the choice and the search for the commit promise.
-- Assumes nothing.
use mathlib.Core.Path.{◌≡◌, sym, ap, ◌∙◌}
use mathlib.Core.Bool.{Bool, true, false}
use mathlib.Core.List.{List}
use mathlib.Core.Option.{some}
use Prim.Native.Nat.{ℕ, ◌+◌, ◌*◌, ◌/◌, ◌≤◌}
use lib.ListN.{length, take, drop}
use Rattle.std.specs.Prelude.{Some, None}
use Rattle.roster.specs.Roster.{cluster, replicas, signature_size}
use Rattle.log_chain.specs.Log.{with_terms, version1}
use Rattle.log_chain.specs.Records.{record_size, records_of}
use Rattle.log_chain.specs.Runs.{Run, runs}
use Rattle.log_chain.proofs.Records.{length-records}
use Rattle.submission.specs.Validate.{form_of, leader_most}
use Rattle.assembly.specs.Items.{items_of}
use Rattle.assembly.specs.Choice.{commit_to}
use Rattle.assembly.specs.Assembly.{log_of}
use Rattle.assembly.proofs.Claim.{not-all-led}
use Rattle.assembly_copies.specs.Rows.{taken_size}
use Rattle.assembly_terms.specs.Wanted.{VotesIn, StampsIn}
use Rattle.assembly_choice.specs.Chosen.{LeadersChosen, RowsHeld}
use Rattle.assembly_commit.specs.Searched.{CommitFound, CommitRowHeld}
use Rattle.assembly_service.specs.Taken.{Checked, bytes_if, PlannedIf, RowsTaken}
use Rattle.assembly_service.proofs.Views.{all-taken}
use Rattle.assembly_service.proofs.Rows.{leads-kept}
use Rattle.assembly_service.proofs.Plans.{planned}

module _ (roster log item_bytes : List ℕ) (ok : Checked roster log item_bytes) where
  abbrev S : ℕ
  S = signature_size roster

  abbrev records : ℕ
  records = length log / record_size 4

  abbrev rs : List Run
  rs = runs (records_of 4 records log)

  module _ (votes stamps chosen : List ℕ) (count : ℕ) (terms : count ≡ length rs)
      (voted : VotesIn (with_terms 4 (cluster roster)) 0 rs votes) (stamped : StampsIn (with_terms 4 (cluster roster)) rs stamps) where
    pub taken-missing : (after taken : List ℕ) → LeadersChosen roster item_bytes votes stamps (record { width = 4; size = S; count = count }) false chosen
        → RowsTaken roster log item_bytes after taken None
    unfolding LeadersChosen bytes_if PlannedIf form_of version1 log_of
    taken-missing after taken leaders =
        record { same = not-all-led roster log item_bytes (leaders rs (sym terms) voted stamped); planned = tt }

    module _ (after taken : List ℕ) (left : VotesIn (with_terms 4 (cluster roster)) 1 rs after)
        (held : RowsHeld S item_bytes (replicas roster) count chosen)
        (kept : take (taken_size * count) taken ≡ take (taken_size * count) chosen)
        (size : length taken ≡ length chosen) (room : taken_size * (leader_most + 1) ≤ length chosen)
        (commit : CommitFound roster log item_bytes (record { width = 4; size = S; records = records }) (drop (taken_size * count) taken))
        (row : CommitRowHeld S item_bytes records (drop (taken_size * count) taken)) where
      pub taken-all : LeadersChosen roster item_bytes votes stamps (record { width = 4; size = S; count = count }) true chosen
          → RowsTaken roster log item_bytes after taken (Some count)
      unfolding LeadersChosen CommitFound bytes_if PlannedIf form_of version1 log_of
      taken-all leaders =
          let kept' : take (taken_size * length rs) chosen ≡ take (taken_size * length rs) taken = sym (ap (λ n. take (taken_size * n) taken) (sym terms) ∙ kept ∙ ap (λ n. take (taken_size * n) chosen) terms) in
          let lead = leaders rs (sym terms) voted stamped
          ∙ ap some (leads-kept S item_bytes (with_terms 4 (cluster roster)) (replicas roster) rs chosen taken kept') in
          let long : length (records_of 4 records log) ≡ records = length-records 4 records log in
          let commit' = ap (λ n. commit_to (with_terms 4 (cluster roster)) roster (items_of 4 S item_bytes) n (records_of 4 records log)) long ∙ commit in
          record {
            same = all-taken roster log item_bytes taken count lead commit';
            planned = planned roster log item_bytes ok after chosen taken count terms left (rw size room) held kept row;
          }

-- ---- the same, for sizes as the code has them

module _ (roster log item_bytes : List ℕ) (ok : Checked roster log item_bytes) (size each : ℕ) (size_is : size ≡ signature_size roster)
    (each-is : each ≡ record_size 4) where
  abbrev terms-given : List Run
  terms-given = runs (records_of 4 (length log / each) log)

  module _ (votes stamps chosen : List ℕ) (count : ℕ) (found : Bool) (terms : count ≡ length terms-given)
      (voted : VotesIn (with_terms 4 (cluster roster)) 0 terms-given votes) (stamped : StampsIn (with_terms 4 (cluster roster)) terms-given stamps)
      (leaders : LeadersChosen roster item_bytes votes stamps (record { width = 4; size = size; count = count }) found chosen) where
    pub missing-given : found ≡ false → (after taken : List ℕ) → RowsTaken roster log item_bytes after taken None
    missing-given f after taken =
        taken-missing roster log item_bytes ok votes stamps chosen count (rw each-is at terms) (rw each-is at voted) (rw each-is at stamped) after taken
        (rw (size_is, f) at leaders)

    pub all-given : found ≡ true → (after taken : List ℕ) → VotesIn (with_terms 4 (cluster roster)) 1 terms-given after
        → RowsHeld size item_bytes (replicas roster) count chosen → take (taken_size * count) taken ≡ take (taken_size * count) chosen
        → length taken ≡ length chosen → taken_size * (leader_most + 1) ≤ length chosen
        → CommitFound roster log item_bytes (record { width = 4; size = size; records = length log / each }) (drop (taken_size * count) taken)
        → CommitRowHeld size item_bytes (length log / each) (drop (taken_size * count) taken) → RowsTaken roster log item_bytes after taken (Some count)
    all-given f after taken left held kept long room commit row =
        taken-all roster log item_bytes ok votes stamps chosen count (rw each-is at terms) (rw each-is at voted) (rw each-is at stamped) after taken
        (rw each-is at left) (rw size_is at held) kept long room (rw (size_is, each-is) at commit) (rw (size_is, each-is) at row)
        (rw (size_is, f) at leaders)
