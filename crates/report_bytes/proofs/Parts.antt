-- The head and the rows are the report's bytes, in place of the first 53.
-- Assumes nothing.
use mathlib.Core.Path.{◌≡◌, ◌∙◌}
use mathlib.Core.List.{List, ◌++◌, map, flat_map}
use Prim.Native.Nat.{ℕ, ◌≤◌}
use native.Mathlib.Omega.{arith}
use lib.ListN.{length, drop, length-map}
use lib.Seq.{sets, sets-eq}
use Rattle.words.specs.BigEndian.{be}
use Rattle.forensics.specs.Findings.{mask_of}
use Rattle.forensics_charges.specs.Charges.{Row, charge_of}
use Rattle.report.specs.Report.{Answer, row_bytes, report_bytes}
use Rattle.report_rows.proofs.Bytes.{length-rows}
use Rattle.report_bytes.specs.Answers.{answered}

pub head_parts : (e e₁ e₂ e₃ e₄ : List ℕ) (n s f m : ℕ) → e₁ ≡ sets e 0 (be 1 n) → e₂ ≡ sets e₁ 1 (be 1 s) → e₃ ≡ sets e₂ 2 (be 4 f)
    → e₄ ≡ sets e₃ 6 (be 2 m) → e₄ ≡ sets e 0 (be 1 n ++ be 1 s ++ be 4 f ++ be 2 m)
unfolding be
head_parts e e₁ e₂ e₃ e₄ n s f m p₁ p₂ p₃ p₄ = rw (p₄, p₃, p₂, p₁)

-- the whole report, in place of the first 53 bytes
whole : (e bytes : List ℕ) → length bytes ≡ 53 → 53 ≤ length e → sets e 0 bytes ≡ bytes ++ drop 53 e
whole e bytes long h = sets-eq bytes e 0 (omega arith) ∙ rw long

length_report : (a : Answer) → length a.findings.rows ≡ 9 → length (report_bytes a) ≡ 53
unfolding report_bytes be
length_report a nine = let rows = length-rows a.findings.rows in omega arith

pub report_parts : (e e₁ e₂ : List ℕ) (n s f mask : ℕ) (rows : List Row) → 53 ≤ length e → length rows ≡ 9
    → mask ≡ mask_of (map charge_of rows) → e₁ ≡ sets e 0 (be 1 n ++ be 1 s ++ be 4 f ++ be 2 mask)
    → e₂ ≡ sets e₁ 8 (flat_map row_bytes (map charge_of rows)) → e₂ ≡ report_bytes (answered n s f rows) ++ drop 53 e
unfolding be report_bytes answered
report_parts e e₁ e₂ n s f mask rows h nine m p₁ p₂ =
    let long = length_report (answered n s f rows) (length-map rows charge_of ∙ nine) in
    rw (p₂, p₁, m) (whole e (report_bytes (answered n s f rows)) long h)
