-- The submission that a log and a bag of items are assembled to (document 02, W3), in version 1: number,
-- length and output for every input.
use Rattle.std.specs.Prelude.{Bool, cond, List, [], ◌∷◌, map, ℕ, ◌/◌, ◌%◌, eqb, leb, length}
use Rattle.std.proofs.Math.Option
use Rattle.std.proofs.Math.Option.{Option, Option-elim, get_or}
use Rattle.words.specs.Over.{over}
use Rattle.refusal.specs.Checks.{all, check, refusal, first}
use Rattle.roster.specs.Roster.{signature_size, roster_number}
use Rattle.log_chain.specs.Log.{Record}
use Rattle.log_chain.specs.Records.{record_size, records_of}
use Rattle.log_chain.specs.Ends.{rising}
use Rattle.log_chain.specs.Runs.{runs}
use Rattle.log_distinct.specs.Distinct.{distinct}
use Rattle.submission.specs.View.{View, Lead}
use Rattle.submission.specs.Validate.{form_of, record_most, leader_most}
use Rattle.submission_encoding.specs.Encoding.{encode}
use Rattle.assembly.specs.Items.{Item, items_of, whole}
use Rattle.assembly.specs.Choice.{leads_for, commit_to}

-- ---- the log

module _ (w : ℕ) (log : List ℕ) where
  -- its whole records, over the term's width
  unfoldable pub log_of : List Record
  log_of = records_of w (length log / record_size w) log

  -- 8: whole records, not above 4,096 of them, and not above 64 distinct terms
  unfoldable pub log_counted : Bool
  log_counted =
      all (
      eqb (length log % record_size w) 0 ∷ leb (length log / record_size w) record_most ∷
      leb (distinct log_of) leader_most ∷ []
      )

-- ---- the submission

abbrev pub records_given : List ℕ → List ℕ → List Record
records_given roster log = log_of (form_of roster).term_bytes log

abbrev pub items_given : List ℕ → List ℕ → List Item
items_given roster item_bytes = items_of (form_of roster).term_bytes (signature_size roster) item_bytes

module _ (roster log item_bytes : List ℕ) where
  -- the log as it was given, with some leaders, and the commit
  unfoldable pub view_with : List Lead → View
  view_with ls =
      record {
        log = records_given roster log;
        leaders = map (λ l. l.certificate) ls;
        stamps = map (λ l. l.stamp) ls;
        commit = commit_to (form_of roster) roster (items_given roster item_bytes)
            (length (records_given roster log)) (records_given roster log);
      }

  unfoldable pub assembled_view : Option View
  assembled_view =
      Option.map view_with
      (leads_for (form_of roster) roster (items_given roster item_bytes) (runs (records_given roster log)))

  -- its bytes, or none where some term has no candidate
  unfoldable pub assembled : Option (List ℕ)
  assembled = Option.map (encode (signature_size roster) (form_of roster) 1) assembled_view

-- ---- the answer

-- 8, 11 and 19, over the term's width w and the signature's length S: the log and the bag
unfoldable pub input_number : ℕ → ℕ → List ℕ → List ℕ → ℕ
input_number w S log item_bytes =
    refusal (
    check 8 (log_counted w log) ∷ check 11 (rising 1 (log_of w log)) ∷ check 19 (whole w S item_bytes) ∷ []
    )

module _ (roster log item_bytes output : List ℕ) where
  -- 20: some term has no candidate; 21: the output is too small
  unfoldable pub output_number : ℕ
  output_number =
      Option-elim (assembled roster log item_bytes) 20
      (λ s. refusal (check 21 (leb (length s) (length output)) ∷ []))

  -- 2 to 4, 8, 11, 19, 20, 21: the first that applies, or 0
  unfoldable pub assemble_number : ℕ
  assemble_number =
      first (roster_number roster)
      (first (input_number (form_of roster).term_bytes (signature_size roster) log item_bytes) output_number)

  -- what is written: nothing where it is refused
  unfoldable pub assembled_bytes : List ℕ
  assembled_bytes = cond (eqb assemble_number 0) (get_or (assembled roster log item_bytes) []) []

  unfoldable pub assemble_length : ℕ
  assemble_length = length assembled_bytes

  -- later bytes are kept
  unfoldable pub output_after : List ℕ
  output_after = over assembled_bytes output
