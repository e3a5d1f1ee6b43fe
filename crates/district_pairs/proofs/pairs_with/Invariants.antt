-- From the last submission down to the one after i: what the pairs with those from `j` on show, before the pairs of the later ones.
use mathlib.Core.Path.{◌≡◌}
use Prim.Native.Nat.{◌<◌}
use Rattle.district_pairs.specs.declared.Entries.{Entries}
use Rattle.district_pairs.specs.Entries.{entry_of}
use Rattle.district_pairs.proofs.Walk.{with_one}
use Rattle.district_pairs.proofs.pairs_with.Given as goal

abbrev pub invariant-loop-j : goal.invariant-loop-j
invariant-loop-j l =
    let e : Entries = record { count = l.initial.j; parts = l.parts } in
    (l.i < l.j) × (l.shown ≡ with_one l.roster l.buffer e (entry_of l.buffer l.a) l.i l.j)
