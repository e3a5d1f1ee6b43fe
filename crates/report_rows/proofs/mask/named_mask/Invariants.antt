-- From the last replica down, each turn doubles the mask and adds a bit: the mask is that of the last rows, as many as were taken.
use mathlib.Core.Path.{◌≡◌}
use mathlib.Core.List.{map}
use Prim.Native.Nat.{◌-◌}
use lib.ListN.{drop, length}
use Rattle.forensics.specs.Findings.{mask_of}
use Rattle.forensics_charges.specs.Charges.{charge_of}
use Rattle.report_rows.proofs.mask.named_mask.Given as goal

abbrev pub invariant-loop-row : goal.invariant-loop-row
invariant-loop-row l = l.mask ≡ mask_of (map charge_of (drop (9 - length l.yielded) l.fn.rows))
