-- A walk over the terms of a log, and over the records of one term. Within the term it has come to record `end`: the next record goes on with
-- the term, or ends it, as the log's end does.
-- Assumes nothing.
use mathlib.Core.Path.{◌≡◌, refl, ap, ◌∙◌}
use mathlib.Core.Bool.{true, false}
use mathlib.Core.List.{List, [], ◌∷◌}
use mathlib.Core.Logic.{⊎_elim}
use Prim.Native.Nat.{ℕ, suc, ◌*◌, ◌≤◌, ◌<◌}
use native.Mathlib.Omega.{arith}
use borrow.Author.Tests.{ltb-true, ltb-false}
use lib.Dec.{ltb}
use lib.ListN.{length}
use Rattle.words.specs.BigEndian.{number_at}
use Rattle.refusal.proofs.Laws.{look}
use Rattle.log_chain.specs.Log.{last_term}
use Rattle.log_chain.specs.Runs.{run, runs_from, runs_after, runs}
use Rattle.log_chain.specs.Records.{record_size, records_of}
use Rattle.log_terms.specs.Later.{records_after, runs_left}
use Rattle.log_terms.proofs.Records.{record_at, records_snoc, after_first, after_last, after-all}
use Rattle.log_chain.proofs.Runs.{run_begun, run_goes, run_ends, run-last}

-- where a record's term stands
pub record_term : (w : ℕ) (s : List ℕ) (i : ℕ) → number_at w s (record_size w * i) ≡ (record_at w s i).term
unfolding record_at number_at
record_term w s i = refl

-- ---- from term to term

pub runs-all : (w count : ℕ) (s : List ℕ) → runs_left w count 0 s ≡ runs (records_of w count s)
unfolding runs records_of
runs-all w count s = rw (after-all w count s)

module _ (w count i : ℕ) (s : List ℕ) where
  pub runs_none : count ≤ i → runs_left w count i s ≡ []
  unfolding runs_after
  runs_none h = rw (after_last w count i s h)

  -- a term is left only where a record is
  pub runs-some : 0 < length (runs_left w count i s) → i < count
  runs-some h =
      ⊎_elim
      (λ (e : ltb i count ≡ true). ltb-true i count e)
      (λ (e : ltb i count ≡ false). absurd (omega (arith, ap length (runs_none (ltb-false i count e)))))
      (look (ltb i count))

  -- it begins with the next record
  pub starts : i < count → runs_left w count i s ≡ runs_from (records_of w i s) (records_of w (suc i) s) (records_after w count (suc i) s)
  unfolding runs_after
  starts h = rw (after_first w count i s h, records_snoc w i s)

  -- where none is left, no record is
  pub runs-over : length (runs_left w count i s) ≡ 0 → count ≤ i
  runs-over e =
      ⊎_elim
      (λ (h : ltb i count ≡ true).
      absurd (omega (arith, e, ap length (starts (ltb-true i count h)), run_begun (records_of w i s) (records_of w (suc i) s) (records_after w count (suc i) s))))
      (λ (h : ltb i count ≡ false). ltb-false i count h)
      (look (ltb i count))

  -- ---- within a term

  module _ (end : ℕ) (walked : runs_left w count i s ≡ runs_from (records_of w i s) (records_of w end s) (records_after w count end s)) where
    pub goes : end < count → (record_at w s end).term ≡ last_term (records_of w end s)
        → runs_left w count i s ≡ runs_from (records_of w i s) (records_of w (suc end) s) (records_after w count (suc end) s)
    goes h e =
        walked
        ∙ rw (after_first w count end s h, records_snoc w end s)
        (run_goes (records_of w i s) (records_of w end s) (record_at w s end) (records_after w count (suc end) s) e)

    pub ends : end < count → ((record_at w s end).term ≡ last_term (records_of w end s) → ⊥)
        → runs_left w count i s ≡ run (records_of w i s) (records_of w end s) ∷ runs_left w count end s
    ends h e =
        walked
        ∙ rw (after_first w count end s h)
        (run_ends (records_of w i s) (records_of w end s) (record_at w s end) (records_after w count (suc end) s) e)

    pub ends-log : count ≤ end → runs_left w count i s ≡ run (records_of w i s) (records_of w end s) ∷ runs_left w count end s
    ends-log h = walked ∙ rw (after_last w count end s h) (run-last (records_of w i s) (records_of w end s))
