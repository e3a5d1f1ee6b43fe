-- The row is written behind those of the terms, which stay.
use Prim.Native.Nat.{◌+◌, ◌-◌, ◌≤◌}
use native.Mathlib.Omega.{arith}
use borrow.Author.Rules.{rules}
use lib.ListN.{length}
use Rattle.roster.proofs.Accepted.{sizes}
use Rattle.assembly_copies.specs.Rows.{taken_size}
use Rattle.assembly_service.proofs.Rows.{row_kept, commit-put, held-put}
use Rattle.assembly_service.proofs.take_commit.Goals as goal

pub returns : goal.returns
returns c =
    let a = c.args in
    let p = c.requires in
    let row = c.find_commit.new.row in
    let e = c.find_commit.ensures in
    let inside : a.at ≤ length a.taken.now = omega (arith, p.1) in
    let few = (sizes _ p.0.fine).high in
    let k = a.at + taken_size - a.at in record { kept = row_kept a.taken.now row a.at k inside; commit = commit-put a.taken.now row a.at k inside a.roster.now a.log.now a.items.now a.widths few e.room e.commit; held = held-put a.taken.now row a.at k inside a.widths.size a.items.now a.widths.records e.room e.held; room = search rules }
