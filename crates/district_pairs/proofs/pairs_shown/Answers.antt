-- From the last accepted submission down: what the pairs of those from `i` on show.
use mathlib.Core.Path.{◌≡◌, ap, ◌∙◌}
use Prim.Native.Nat.{ℕ, suc, ◌-◌, ◌≤◌}
use native.Mathlib.Omega.{arith}
use lib.ListN.{length, drop}
use Rattle.district.specs.District.{pairs, union, first_fork, shown}
use Rattle.district_pairs.specs.Entries.{entries_of}
use Rattle.district_pairs.proofs.Walk.{entries-end}
use Rattle.district_pairs.proofs.pairs_shown.Goals as goal

pub loop-i-init : goal.loop-i-init
unfolding shown union first_fork pairs
loop-i-init c =
    let e = c.args.entries in
    let whole : e.count ≤ length e.parts = omega (arith, c.requires.room.places, c.requires.room.taken) in
    rw (entries-end e whole c.args.buffer.now)

pub pairs_with-shown-requires : goal.pairs_with-shown-requires
pairs_with-shown-requires c =
    let l = c.loop-i in
    let a = c.args in
    let again : l.i ≡ suc (l.i - 1) = omega arith in (
      c.requires,
      omega arith,
      l.invariant ∙ ap (λ (k : ℕ). shown a.roster.now (pairs (drop k (entries_of a.buffer.now a.entries)))) again,
    )

pub loop-i-preserved : goal.loop-i-preserved
loop-i-preserved c = c.pairs_with-shown.ensures

pub returns : goal.returns
returns c =
    let l = c.loop-i in
    let a = c.args in
    let end : l.i ≡ 0 = omega arith in
    l.invariant ∙ ap (λ (k : ℕ). shown a.roster.now (pairs (drop k (entries_of a.buffer.now a.entries)))) end
