-- From the last accepted submission down: what the pairs of those from `i` on show.
use mathlib.Core.Path.{◌≡◌}
use lib.ListN.{drop}
use Rattle.district.specs.District.{pairs, shown}
use Rattle.district_pairs.specs.Entries.{entries_of}
use Rattle.district_pairs.proofs.pairs_shown.Given as goal

abbrev pub invariant-loop-i : goal.invariant-loop-i
invariant-loop-i l = l.shown ≡ shown l.roster (pairs (drop l.i (entries_of l.buffer l.entries)))
