-- Each part begins where the last one ended.
use Prim.Native.Nat.{◌*◌, ◌<◌}
use native.Mathlib.Omega.{arith}
use borrow.Author.Rules.{rules}
use lib.ListN.{length}
use Rattle.words.proofs.Laws.{part_end}
use Rattle.words.proofs.Over.{begun-long, rest-inside, rest-room, rest_put}
use Rattle.assembly_copies.specs.Rows.{taken_size}
use Rattle.assembly_writer.specs.Parts.{certified_part}
use Rattle.assembly_writer.proofs.Rows.{commit-row-long, commit-row-first, commit-row-places}
use Rattle.assembly_writer.proofs.Certified.{leaders-room, leaders-begun, stamps-begun}
use Rattle.assembly_writer.proofs.put_certified.Goals as goal

pub put_leaders-leaders-requires : goal.put_leaders-leaders-requires
put_leaders-leaders-requires c =
    let a = c.args in
    (c.requires.0, c.requires.1, leaders-room a.items.now a.votes.now a.taken.now a.out.now a.plan c.requires.3)

pub slice_bounds-second-count : goal.slice_bounds-second-count
slice_bounds-second-count c =
    let a = c.args in
    let put = c.put_leaders-leaders.ensures in
    let b = leaders-begun a.items.now a.votes.now a.taken.now a.out.now a.plan c.requires.3 put.size put.bytes in
    omega (arith, rest-inside b)

pub slice_bounds-second-start : goal.slice_bounds-second-start
slice_bounds-second-start c =
    let a = c.args in
    let put = c.put_leaders-leaders.ensures in
    let b = leaders-begun a.items.now a.votes.now a.taken.now a.out.now a.plan c.requires.3 put.size put.bytes in
    omega (arith, rest-inside b)

pub put_stamps-stamps-requires : goal.put_stamps-stamps-requires
put_stamps-stamps-requires c =
    let a = c.args in
    let put = c.put_leaders-leaders.ensures in
    let b = leaders-begun a.items.now a.votes.now a.taken.now a.out.now a.plan c.requires.3 put.size put.bytes in
    (c.requires.0, rest-room b)

pub overflow_add-at : goal.overflow_add-at
overflow_add-at c =
    let a = c.args in
    let put = c.put_leaders-leaders.ensures in
    let b = leaders-begun a.items.now a.votes.now a.taken.now a.out.now a.plan c.requires.3 put.size put.bytes in
    let fits : length a.out.now < 18446744073709551616 = search rules in
    omega (arith, rest-inside b, begun-long b, fits, c.put_stamps-stamps.ensures.size)

pub slice_bounds-third-count : goal.slice_bounds-third-count
slice_bounds-third-count c =
    let a = c.args in
    let put = c.put_leaders-leaders.ensures in
    let b = leaders-begun a.items.now a.votes.now a.taken.now a.out.now a.plan c.requires.3 put.size put.bytes in
    omega (arith, rest-inside b, c.put_stamps-stamps.ensures.size)

pub slice_bounds-third-start : goal.slice_bounds-third-start
slice_bounds-third-start c =
    let a = c.args in
    let put = c.put_leaders-leaders.ensures in
    let b = leaders-begun a.items.now a.votes.now a.taken.now a.out.now a.plan c.requires.3 put.size put.bytes in
    omega (arith, rest-inside b, c.put_stamps-stamps.ensures.size)

pub put_commit-commit-requires : goal.put_commit-commit-requires
put_commit-commit-requires c =
    let a = c.args in
    let put = c.put_leaders-leaders.ensures in
    let b = leaders-begun a.items.now a.votes.now a.taken.now a.out.now a.plan c.requires.3 put.size put.bytes in
    let held = c.requires.0 in
    let two = rest_put b c.put_stamps-stamps.ensures.size c.put_stamps-stamps.ensures.bytes in
    let d = stamps-begun a.items.now a.votes.now a.taken.now a.out.now a.plan c.requires.3 two.0 two.1 in
    rw (part_end a.taken.now (taken_size * a.plan.leaders))
    (commit-row-places held, omega (arith, commit-row-long held), omega (arith, commit-row-first held, c.requires.2), rest-room d)

pub returns : goal.returns
unfolding certified_part
returns c =
    let a = c.args in
    let put = c.put_leaders-leaders.ensures in
    let b = leaders-begun a.items.now a.votes.now a.taken.now a.out.now a.plan c.requires.3 put.size put.bytes in
    let two = rest_put b c.put_stamps-stamps.ensures.size c.put_stamps-stamps.ensures.bytes in
    let d = stamps-begun a.items.now a.votes.now a.taken.now a.out.now a.plan c.requires.3 two.0 two.1 in
    let e = rw (part_end a.taken.now (taken_size * a.plan.leaders)) at c.put_commit-commit.ensures in record { sizes = record { leaders = c.put_leaders-leaders.ensures.size; stamps = c.put_stamps-stamps.ensures.size; commit = e.size }; bytes = (rest_put d e.size e.bytes).1 }
