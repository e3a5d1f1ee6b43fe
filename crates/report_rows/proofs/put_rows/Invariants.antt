-- A row a turn, each where the one before ends.
-- A loop that fills a buffer, with the needs of any such loop; the step that is its own is `rows_more`.
use mathlib.Core.List.{map, flat_map}
use mathlib.Core.Path.{◌≡◌}
use lib.ListN.{length, take}
use lib.Seq.{sets}
use Rattle.forensics_charges.specs.Charges.{charge_of}
use Rattle.report.specs.Report.{row_bytes}
use Rattle.report_rows.proofs.put_rows.Given as goal

abbrev pub invariant-loop-i : goal.invariant-loop-i
invariant-loop-i l =
    (length l.out ≡ length l.initial.out)
    × (l.out ≡ sets l.initial.out 8 (flat_map row_bytes (map charge_of (take l.i l.row-items))))
