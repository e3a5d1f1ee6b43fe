-- A row's bytes, and rows written one after the other.
-- Assumes nothing.
use mathlib.Core.Path.{◌≡◌, refl, sym, ap, ◌∙◌}
use mathlib.Core.List.{List, [], ◌∷◌, ◌++◌, map, flat_map, map-append}
use mathlib.Core.Option.{Option, some, none}
use Prim.Native.Nat.{ℕ, ◌+◌, ◌*◌, ◌<◌}
use native.Mathlib.Numerals.{add-one}
use native.Mathlib.Omega.{arith}
use lib.ListN.{length, take, get_or, length-append, length-map}
use lib.Seq.{sets, length-sets, take-suc, length-take-le}
use Rattle.std.specs.Prelude.{Some, None}
use Rattle.words.specs.BigEndian.{be}
use Rattle.words.proofs.Laws.{length-be, sets-append}
use Rattle.words.proofs.FlatMap.{flat_map-one}
use Rattle.replica.specs.Charges.{Charge}
use Rattle.forensics_charges.specs.Charges.{Row, meaning, charge_of}
use Rattle.report.specs.Report.{row_bytes}

-- ---- a row

pub length-row : (x : Option Charge) → length (row_bytes x) ≡ 5
unfolding row_bytes be
length-row none = refl
length-row (some c) = refl

-- a row's rule and term, without a charge zeros
abbrev pub fields : Row → ℕ × ℕ
fields None = (0, 0)
fields (Some c) = (c.rule, c.term)

pub row-is : (row : Row) (f : ℕ × ℕ) → f ≡ fields row → be 1 f.0 ++ be 4 f.1 ≡ row_bytes (charge_of row)
unfolding row_bytes charge_of meaning
row-is None f e = rw e
row-is (Some c) f e = rw e

-- ---- the rows

pub length-rows : (l : List (Option Charge)) → length (flat_map row_bytes l) ≡ 5 * length l
unfolding flat_map
length-rows [] = refl
length-rows (x ∷ l) = rw (length-append, length-row, length-rows l) (omega arith)

-- ---- parts written one after the other

put_two : (e xs ys : List ℕ) (at k : ℕ) → length xs ≡ k → sets (sets e at xs) (at + k) ys ≡ sets e at (xs ++ ys)
put_two e xs ys at k h = rw (← h) (sym (sets-append e at xs ys))

-- the rule, then the term
pub put_row : (e e₁ e₂ : List ℕ) (at rule term : ℕ) (bytes : List ℕ) → e₁ ≡ sets e at (be 1 rule) → e₂ ≡ sets e₁ (at + 1) (be 4 term)
    → be 1 rule ++ be 4 term ≡ bytes → e₂ ≡ sets e at bytes
put_row e e₁ e₂ at rule term bytes p₁ p₂ same =
    p₂ ∙ ap (λ (x : List ℕ). sets x (at + 1) (be 4 term)) p₁ ∙ put_two e (be 1 rule) (be 4 term) at 1 (length-be 1 rule) ∙ ap (sets e at) same

pub rows_none : (e : List ℕ) → e ≡ sets e 8 (flat_map row_bytes [])
unfolding flat_map
rows_none e = refl

more_rows : (rows : List Row) (i : ℕ) (d : Row) → i < length rows
    → flat_map row_bytes (map charge_of (take (i + 1) rows)) ≡ flat_map row_bytes (map charge_of (take i rows)) ++ row_bytes (charge_of (get_or rows i d))
more_rows rows i d h =
    rw (add-one, take-suc rows i d h, map-append, flat_map-one row_bytes (map charge_of (take i rows)) (charge_of (get_or rows i d)))

-- one row more
pub rows_more : (e e₁ e₂ : List ℕ) (rows : List Row) (i : ℕ) (d : Row) → i < length rows
    → e₁ ≡ sets e 8 (flat_map row_bytes (map charge_of (take i rows))) → e₂ ≡ sets e₁ (8 + 5 * i) (row_bytes (charge_of (get_or rows i d)))
    → (length e₂ ≡ length e) × (e₂ ≡ sets e 8 (flat_map row_bytes (map charge_of (take (i + 1) rows))))
rows_more e e₁ e₂ rows i d h p₁ p₂ =
    let before = map charge_of (take i rows) in
    let row = row_bytes (charge_of (get_or rows i d)) in
    let long : length (flat_map row_bytes before) ≡ 5 * i =
    length-rows before ∙ ap (λ (n : ℕ). 5 * n) (length-map (take i rows) charge_of ∙ length-take-le i rows (omega arith)) in
    let put : e₂ ≡ sets e 8 (flat_map row_bytes before ++ row) =
    p₂ ∙ ap (λ (x : List ℕ). sets x (8 + 5 * i) row) p₁ ∙ put_two e (flat_map row_bytes before) row 8 (5 * i) long in
    (ap length put ∙ length-sets e 8 (flat_map row_bytes before ++ row), put ∙ ap (sets e 8) (sym (more_rows rows i d h)))
