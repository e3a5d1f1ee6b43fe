-- The named replicas from the rows: each row gives a bit, the highest replica first.
-- Assumes nothing.
use mathlib.Core.Path.{◌≡◌, refl, ap, ◌∙◌}
use mathlib.Core.List.{List, [], ◌∷◌, map}
use mathlib.Core.Option.{Option, some, none}
use Prim.Native.Nat.{ℕ, suc, ◌+◌, ◌-◌, ◌*◌, ◌^◌, ◌≤◌, ◌<◌}
use native.Mathlib.Nat.{pow-suc, pow-le-pow_right, lt_of_lt_of_le}
use native.Mathlib.Omega.{arith}
use lib.Dec.{lit<}
use lib.ListN.{length, drop, get_or, length-drop, length-map}
use lib.Seq.{drop-cons}
use Rattle.std.specs.Int.{from_bool}
use Rattle.std.specs.Prelude.{Some, None, is_some}
use Rattle.replica.specs.Charges.{Charge}
use Rattle.forensics.specs.Findings.{bit, mask_of}
use Rattle.forensics_charges.specs.Charges.{Row, charge_of}

-- a row's bit, by whether it has a charge
pub bit-is : (row : Row) → (from_bool (is_some row) ≡ bit (charge_of row)) × (from_bool (is_some row) < 2)
unfolding bit charge_of
bit-is None = (refl, lit< tt)
bit-is (Some c) = (refl, lit< tt)

bit-lt : (x : Option Charge) → bit x < 2
unfolding bit
bit-lt none = lit< tt
bit-lt (some c) = lit< tt

mask_lt : (l : List (Option Charge)) → mask_of l < 2 ^ length l
unfolding mask_of
mask_lt [] = lit< tt
mask_lt (x ∷ l) = let b = bit-lt x in let m = mask_lt l in rw pow-suc (omega arith)

-- the highest replica first
pub mask_step : (rows : List Row) (k : ℕ) (d : Row) → k < length rows
    → mask_of (map charge_of (drop k rows)) ≡ bit (charge_of (get_or rows k d)) + 2 * mask_of (map charge_of (drop (suc k) rows))
unfolding mask_of
mask_step rows k d h = rw (drop-cons rows k d h)

pub next_bit : (rows : List Row) (k mask b : ℕ) (d : Row) → 0 < k → k ≤ length rows → mask ≡ mask_of (map charge_of (drop k rows))
    → b ≡ bit (charge_of (get_or rows (k - 1) d)) → mask * 2 + b ≡ mask_of (map charge_of (drop (k - 1) rows))
next_bit rows k mask b d h long e f =
    let after : suc (k - 1) ≡ k = omega arith in
    let step = rw after at (mask_step rows (k - 1) d (omega arith)) in
    rw step (omega arith)

-- the replicas from the second on leave room for one more bit
pub mask_small : (rows : List Row) (k : ℕ) → length rows ≡ 9 → 0 < k → mask_of (map charge_of (drop k rows)) < 256
mask_small rows k long h =
    let count : length (map charge_of (drop k rows)) ≡ 9 - k = length-map (drop k rows) charge_of ∙ length-drop k rows ∙ ap (λ (n : ℕ). n - k) long in
    let bound : length (map charge_of (drop k rows)) ≤ 8 = omega arith in
    lt_of_lt_of_le (mask_lt (map charge_of (drop k rows))) (pow-le-pow_right (lit< tt) bound)
