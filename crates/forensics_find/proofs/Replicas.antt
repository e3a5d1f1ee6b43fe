-- The rows of the replicas, one replica after the other: a row for each that is done, and then the next replica's.
-- Assumes nothing.
use mathlib.Core.Path.{◌≡◌, refl, sym, ap, ◌∙◌}
use mathlib.Core.List.{List, [], ◌∷◌, ◌++◌, map}
use mathlib.Core.Option.{Option}
use Prim.Native.Nat.{ℕ, zero, suc, ◌+◌, ◌≤◌, ◌<◌}
use native.Mathlib.Numerals.{add-one}
use native.Mathlib.Omega.{arith}
use lib.ListN.{length, take, set, get_or, length-set}
use lib.Seq.{take_all, take-suc-set}
use Rattle.replica.specs.Charges.{Charge}
use Rattle.submission.specs.View.{Slot}
use Rattle.lm_format.specs.Uses.{Use}
use Rattle.forensics.specs.Findings.{all_charges, lowest, rows_from}
use Rattle.forensics_charges.specs.Charges.{Row, rows_by, charge_of}

module _ (row : ℕ → Option Charge) where
  rows_snoc : (count k : ℕ) → rows_by row (suc count) k ≡ rows_by row count k ++ (row (k + count) ∷ [])
  unfolding rows_by
  rows_snoc zero k = let here : k + 0 ≡ k = omega arith in rw here
  rows_snoc (suc count) k =
      let place : k + suc count ≡ suc k + count = omega arith in
      ap (λ (rows : List (Option Charge)). row k ∷ rows) (rw place (rows_snoc count (suc k)))

  -- ---- a loop that has the first i of nine

  pub record Filled (out : List Row) (i : ℕ) : Type 0 where
    pub few : i ≤ 9
    pub long : length out ≡ 9
    pub done : map charge_of (take i out) ≡ rows_by row i 1

  map_snoc : (rs : List Row) (r : Row) → map charge_of (rs ++ (r ∷ [])) ≡ map charge_of rs ++ (charge_of r ∷ [])
  map_snoc [] r = refl
  map_snoc (x ∷ rs) r = ap (λ (rows : List (Option Charge)). charge_of x ∷ rows) (map_snoc rs r)

  pub fill : (out : List Row) (i : ℕ) (r : Row) → Filled out i → i < 9 → charge_of r ≡ row (i + 1) → Filled (set out i r) (i + 1)
  fill out i r x more e =
      let place : 1 + i ≡ i + 1 = omega arith in
      record {
        few = omega arith;
        long = rw length-set x.long;
        done =
            rw (add-one, take-suc-set out i r (omega (arith, x.long)), map_snoc (take i out) r, x.done, e)
            (sym (rw place at (rows_snoc i 1)));
      }

  pub filled : (out : List Row) (i : ℕ) → Filled out i → 9 ≤ i → map charge_of out ≡ rows_by row 9 1
  filled out i x h =
      let all : i ≡ 9 = omega (arith, x.few) in
      let rows : map charge_of (take 9 out) ≡ rows_by row 9 1 = rw all at x.done in
      ap (map charge_of) (sym (take_all 9 out (omega (arith, x.long)))) ∙ rows

-- ---- one row of them

pub rows_at : (row : ℕ → Option Charge) (d : Option Charge) (count k i : ℕ) → i < count → get_or (rows_by row count k) i d ≡ row (k + i)
unfolding rows_by
rows_at row d zero k i h = absurd (omega arith)
rows_at row d (suc count) k zero h = let here : k + 0 ≡ k = omega arith in rw here
rows_at row d (suc count) k (suc i) h = let place : k + suc i ≡ suc k + i = omega arith in rw place (rows_at row d count (suc k) i (omega arith))

-- ---- rows that are those of the charges

pub rows_same : (as_use : Slot → Use) (row : ℕ → Option Charge) (xs ys : List Slot) (count k : ℕ)
    → ((j : ℕ) → k ≤ j → j < k + count → lowest (all_charges as_use j xs ys) ≡ row j) → rows_by row count k ≡ rows_from as_use count k xs ys
unfolding rows_by rows_from
rows_same as_use row xs ys zero k e = refl
rows_same as_use row xs ys (suc count) k e =
    let rest = rows_same as_use row xs ys count (suc k) (λ j p q. e j (omega arith) (omega arith)) in
    rw (e k (omega arith) (omega arith), rest)
