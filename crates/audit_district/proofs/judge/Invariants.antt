-- One submission after the other: what has been judged is the first i, and where the next begins is what their lengths add up to.
use mathlib.Core.Path.{◌≡◌}
use mathlib.Core.List.{Memᴰ}
use lib.ListN.{take}
use Rattle.words.specs.Over.{over}
use Rattle.district_parts.specs.Parts.{parts, total}
use Rattle.district.specs.District.{accepted_from, number_bytes}
use Rattle.district_pairs.specs.declared.Part.{Part}
use Rattle.district_pairs.specs.Entries.{parts_of, entries_of, Fit, Room}
use Rattle.audit_district.proofs.judge.Given as goal

abbrev pub invariant-loop-i : goal.invariant-loop-i
invariant-loop-i l =
    (l.at ≡ total (take l.i l.lengths))
    × (l.report ≡ over (number_bytes l.roster (take l.i (parts l.lengths l.buffer))) l.initial.report)
    × (entries_of l.buffer l.entries ≡ accepted_from l.roster 1 (take l.i (parts l.lengths l.buffer)))
    × Room l.i l.entries × ((p : Part) → Memᴰ p (parts_of l.entries) → Fit l.roster l.buffer p)
