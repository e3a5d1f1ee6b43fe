-- A term looked for in the records after this one, and the distinct terms there counted, one record at a time.
-- Assumes nothing.
use mathlib.Core.Path.{◌≡◌, refl, sym}
use mathlib.Core.Bool.{Bool, true, false, not, cond, ◌||◌}
use mathlib.Core.List.{List}
use Prim.Native.Nat.{ℕ, zero, suc, ◌+◌, ◌*◌, ◌≤◌, ◌<◌}
use native.Mathlib.Numerals.{add-one}
use lib.Dec.{eqb}
use lib.ListN.{drop}
use lib.Seq.{drop-drop}
use Rattle.std.specs.List.{list_any, range_with_len}
use Rattle.refusal.proofs.Laws.{met, unmet}
use Rattle.log_chain.specs.Log.{last_term}
use Rattle.log_chain.specs.Records.{record_size, records_of}
use Rattle.log_terms.specs.Later.{records_after}
use Rattle.log_terms.proofs.Records.{record_at, record_next, records-last, after_first, after_last}
use Rattle.log_distinct.specs.Distinct.{occurs, distinct}

-- ---- whether a term occurs among n records, from the one after record i on

either : (a b c : Bool) → b ≡ c → (a || b) ≡ cond a true c
either true b c e = refl
either false b c e = e

pub any_later : (w t : ℕ) (s : List ℕ) (n i : ℕ)
    → list_any (λ k. eqb (last_term (records_of w (k + 1) s)) t) (range_with_len i n) ≡ occurs t (records_of w n (drop (record_size w * i) s))
unfolding occurs records_of record_at
any_later w t s zero i = refl
any_later w t s (suc n) i =
    let term : last_term (records_of w (i + 1) s) ≡ (record_at w s i).term = rw add-one (records-last w i s) in
    let place : record_size w * i + record_size w ≡ record_size w * (i + 1) = rw add-one (sym (record_next w i)) in
    rw (term, drop-drop, place) (either _ _ _ (any_later w t s n (i + 1)))

-- ---- how many are distinct

module _ (w count i : ℕ) (s : List ℕ) where
  -- none is left
  pub distinct_none : count ≤ i → distinct (records_after w count i s) ≡ 0
  unfolding distinct
  distinct_none h = rw (after_last w count i s h)

  -- the term of the record here
  module _ {u : ℕ} (term : u ≡ last_term (records_of w (i + 1) s)) (h : i < count) where
    here : (record_at w s i).term ≡ u
    here = sym (rw (add-one, records-last w i s) at term)

    -- the term of the record here counts where it does not occur later

    module _ {r : Bool} (later : r ≡ occurs u (records_after w count (i + 1) s)) where
      pub distinct-again : not r ≡ false → distinct (records_after w count i s) ≡ distinct (records_after w count (i + 1) s)
      unfolding distinct
      distinct-again e = rw (add-one, after_first w count i s h, here, rw add-one at (met later e))

      pub distinct-new : not r ≡ true → distinct (records_after w count i s) ≡ suc (distinct (records_after w count (i + 1) s))
      unfolding distinct
      distinct-new e = rw (add-one, after_first w count i s h, here, rw add-one at (unmet later e))
