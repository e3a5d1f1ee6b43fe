-- What the search for the commit asks for and gives.
use Rattle.std.specs.Prelude.{◌≡◌, true, List, ℕ, ◌-◌, ◌*◌, ◌≤◌, ◌<◌, length, get_or}
use Rattle.words.specs.Widths.{width_most}
use Rattle.roster.specs.Roster.{cluster, replicas, roster_number}
use Rattle.roster.specs.Sizes.{signature_most}
use Rattle.log_chain.specs.Log.{with_terms}
use Rattle.log_chain.specs.Records.{record_size, records_of}
use Rattle.submission.specs.Validate.{record_most}
use Rattle.assembly.specs.Items.{items_of, whole}
use Rattle.assembly.specs.Choice.{receipts_for, commit_to}
use Rattle.assembly_copies.specs.Rows.{taken_size, copies_at, commit_in}
use Rattle.assembly_commit.specs.declared.LogSizes.{LogSizes}

pub record Receivable (roster log item_bytes : List ℕ) (w : LogSizes) : Type 0 where
  pub fine : roster_number roster ≡ 0
  pub width : w.width ≤ width_most
  pub size : w.size ≤ signature_most
  pub items : whole w.width w.size item_bytes ≡ true
  pub records : w.records ≤ record_most
  pub logged : record_size w.width * w.records ≤ length log

-- a row of a commit: an index of the log or 0, and places inside the bag
pub record CommitRowHeld (S : ℕ) (item_bytes : List ℕ) (records : ℕ) (row : List ℕ) : Type 0 where
  pub index : get_or row 0 0 ≤ records
  pub places : (k : ℕ) → 0 < k → k < taken_size → get_or row k 0 ≤ length item_bytes - S

-- places that are those of the receipts that fit the first i records
unfoldable pub ReceiptsFound : List ℕ → List ℕ → List ℕ → LogSizes → ℕ → List ℕ → Type 0
ReceiptsFound roster log item_bytes w i places =
    copies_at w.size item_bytes (replicas roster) places
    ≡ receipts_for (with_terms w.width (cluster roster)) roster (items_of w.width w.size item_bytes) i
    (records_of w.width w.records log)

-- the commit of the log's first records is that of the row
unfoldable pub CommitFound : List ℕ → List ℕ → List ℕ → LogSizes → List ℕ → Type 0
CommitFound roster log item_bytes w row =
    let records = records_of w.width w.records log in
    commit_to (with_terms w.width (cluster roster)) roster (items_of w.width w.size item_bytes)
    w.records records
    ≡ commit_in w.size item_bytes (replicas roster) row
