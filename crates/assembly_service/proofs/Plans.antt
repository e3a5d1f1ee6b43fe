-- What the checks leave known of the log, and that the rows that were taken can be written.
-- Assumes nothing.
use mathlib.Core.Path.{◌≡◌, sym, ap, ◌∙◌}
use mathlib.Core.Bool.{true}
use mathlib.Core.List.{List}
use mathlib.Core.Logic.{⊎_elim}
use Prim.Native.Nat.{ℕ, ◌+◌, ◌-◌, ◌*◌, ◌/◌, ◌≤◌, ◌<◌}
use native.Mathlib.Nat.{div-add-mod}
use native.Mathlib.Omega.{arith}
use borrow.Author.Tests.{ltb-true, ltb-false}
use lib.Dec.{ltb}
use lib.ListN.{length, take, drop, get_or}
use lib.Seq.{get_or-take, get_or-drop}
use Rattle.refusal.proofs.Laws.{look}
use Rattle.roster.specs.Roster.{replicas, signature_size}
use Rattle.roster.proofs.Accepted.{sizes, signature-bounds}
use Rattle.log_chain.specs.Log.{version1}
use Rattle.log_chain.specs.Records.{record_size}
use Rattle.log_chain.specs.Runs.{runs}
use Rattle.submission.specs.Validate.{form_of, record_most, leader_most}
use Rattle.assembly.specs.Assembly.{log_of, records_given}
use Rattle.assembly.proofs.Counted.{log-tests, terms-few}
use Rattle.assembly_copies.specs.Rows.{taken_size}
use Rattle.assembly_terms.specs.Wanted.{VotesIn}
use Rattle.assembly_choice.specs.Chosen.{RowsHeld}
use Rattle.assembly_commit.specs.Searched.{CommitRowHeld}
use Rattle.assembly_writer.specs.Written.{Planned}
use Rattle.assembly_service.specs.Taken.{Checked, plan_of}

-- what two tables begin with alike, at a place of it
kept_at : (t u : List ℕ) (a j : ℕ) → j < a → take a t ≡ take a u → get_or t j 0 ≡ get_or u j 0
kept_at t u a j h e = sym (get_or-take a t j 0 h) ∙ ap (λ l. get_or l j 0) e ∙ get_or-take a u j 0 h

row_inside : (t k count : ℕ) → t < count → k < taken_size → taken_size * t + k < taken_size * count
row_inside t k count h g = omega (arith, h, g)

module _ (roster log item_bytes : List ℕ) (ok : Checked roster log item_bytes) where
  abbrev w : ℕ
  w = (form_of roster).term_bytes

  abbrev records : ℕ
  records = length log / record_size w

  pub whole-log : record_size w * records ≡ length log
  whole-log = omega (arith, div-add-mod (length log) (record_size w), (log-tests w log ok.counts).0)

  pub few-records : records ≤ record_most
  few-records = (log-tests w log ok.counts).1

  pub few-terms : length (runs (records_given roster log)) ≤ leader_most
  few-terms = terms-few w log ok.counts ok.order

  -- ---- the rows

  module _ (votes chosen taken : List ℕ) (count : ℕ) (terms : count ≡ length (runs (records_given roster log)))
      (tabled : VotesIn (form_of roster) 1 (runs (records_given roster log)) votes)
      (room : taken_size * (leader_most + 1) ≤ length taken)
      (held : RowsHeld (signature_size roster) item_bytes (replicas roster) count chosen)
      (kept : take (taken_size * count) taken ≡ take (taken_size * count) chosen)
      (row : CommitRowHeld (signature_size roster) item_bytes records (drop (taken_size * count) taken)) where
    few : count ≤ leader_most
    few = rw terms few-terms

    places : (t k : ℕ) → t ≤ count → 0 < k → k < taken_size → get_or taken (taken_size * t + k) 0 ≤ length item_bytes - signature_size roster
    places t k h low high =
        ⊎_elim
        (λ (y : ltb t count ≡ true).
        let early = ltb-true t count y in
        rw (kept_at taken chosen (taken_size * count) (taken_size * t + k) (row_inside t k count early high) kept) (held.places t k early low high))
        (λ n.
        let last : t ≡ count = omega (arith, h, ltb-false t count n) in
        rw (last, ← get_or-drop (taken_size * count) taken k 0) (row.places k low high))
        (look (ltb t count))

    pub planned : Planned roster log item_bytes votes (plan_of roster log count) taken
    unfolding plan_of form_of version1 log_of
    planned =
        let s = sizes roster ok.fine in
        let zero-end : taken_size * count + 0 ≡ taken_size * count = omega arith in
        record {
          name = omega (arith, s.low, s.size);
          records = few-records;
          logged = whole-log;
          leaders = terms;
          tabled = tabled;
          index = rw (ap (λ j. get_or taken j 0) (sym zero-end), ← get_or-drop (taken_size * count) taken 0 0) row.index;
          held =
              record {
                width = omega arith;
                size = (signature-bounds roster ok.fine).1;
                replicas = s.high;
                few = few;
                long = omega (arith, room, few);
                candidates = λ t h. rw (kept_at taken chosen (taken_size * count) (taken_size * t) (omega (arith, h)) kept) (held.candidates t h);
                inside = places;
              };
        }
