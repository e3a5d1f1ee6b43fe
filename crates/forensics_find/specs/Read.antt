-- The fork index and the rows of two submissions, from their terms and receipts as they are read (document
-- 01, "The report").
use Rattle.std.specs.Prelude.{List, ℕ}
use Rattle.std.proofs.Math.Option.{Option}
use Rattle.replica.specs.Charges.{Charge}
use Rattle.submission.specs.Reading.{view}
use Rattle.log_chain.specs.Difference.{differ_at}
use Rattle.forensics.specs.Findings as forensics
use Rattle.forensics_charges.specs.Charges.{difference_of, receipts, ruled_by, rows_by, fork_of}
use Rattle.forensics_find.specs.Tenures.{tenures_of}

-- what two submissions show, from the terms that are read
unfoldable pub read : ℕ → ℕ → List ℕ → List ℕ → forensics.Findings
read w S a b =
    let x = view w S a in
    let y = view w S b in
    let difference = difference_of (differ_at 1 x.log y.log) in
    let row : ℕ → Option Charge =
    λ k. forensics.lowest
    (ruled_by k difference (tenures_of w S a) (tenures_of w S b) (receipts x) (receipts y)) in
    record { fork = fork_of difference (receipts x) (receipts y); rows = rows_by row forensics.row_count 1 }
