-- Nothing, or the index at the start, and signers and signatures into the rest.
use mathlib.Core.Path.{sym, ap, ◌∙◌}
use native.Mathlib.Omega.{arith}
use lib.ListN.{length}
use Rattle.words.specs.Over.{over}
use Rattle.words.proofs.Laws.{part_end}
use Rattle.words.proofs.Over.{begun-long, rest-inside, rest-room, rest_put}
use Rattle.assembly_writer.proofs.Heads.{commit-none, commit-some, commit-head, commit-begun}
use Rattle.assembly_writer.proofs.put_commit.Goals as goal

pub returns-then-index-eq0 : goal.returns-then-index-eq0
returns-then-index-eq0 c =
    let a = c.args in
    let it = commit-none a.plan.size a.items.now a.plan.replicas a.row.now a.out.now c.if-index-eq0.true in
    record { size = it.0; bytes = it.1 }

pub put_u32-requires : goal.put_u32-requires
put_u32-requires c =
    let a = c.args in
    omega (arith, commit-head a.plan.size a.items.now a.plan.replicas a.row.now a.out.now c.if-index-eq0.false c.requires.3)

pub slice_bounds-rest-count : goal.slice_bounds-rest-count
slice_bounds-rest-count c =
    let a = c.args in
    omega (arith, commit-head a.plan.size a.items.now a.plan.replicas a.row.now a.out.now c.if-index-eq0.false c.requires.3)

pub slice_bounds-rest-start : goal.slice_bounds-rest-start
slice_bounds-rest-start c =
    let a = c.args in
    omega (arith, commit-head a.plan.size a.items.now a.plan.replicas a.row.now a.out.now c.if-index-eq0.false c.requires.3)

pub put_signed-requires : goal.put_signed-requires
put_signed-requires c =
    let a = c.args in
    let b = commit-begun a.plan.size a.items.now a.plan.replicas a.row.now a.out.now c.if-index-eq0.false c.requires.3
    c.put_u32.ensures in
    rw (part_end a.row.now 2) (c.requires.0, rest-room b)

pub overflow_add-result : goal.overflow_add-result
overflow_add-result c =
    let a = c.args in
    let b = commit-begun a.plan.size a.items.now a.plan.replicas a.row.now a.out.now c.if-index-eq0.false c.requires.3
    c.put_u32.ensures in
    let e = rw (part_end a.row.now 2) at c.put_signed.ensures in
    omega (arith, rest-inside b, begun-long b, e.size)

pub returns : goal.returns
returns c =
    let a = c.args in
    let some = commit-some a.plan.size a.items.now a.plan.replicas a.row.now a.out.now c.if-index-eq0.false in
    let b = commit-begun a.plan.size a.items.now a.plan.replicas a.row.now a.out.now c.if-index-eq0.false c.requires.3
    c.put_u32.ensures in
    let e = rw (part_end a.row.now 2) at c.put_signed.ensures in
    let put = rest_put b e.size e.bytes in
    record { size = put.0 ∙ sym (ap length some); bytes = put.1 ∙ ap (λ z. over z a.out.now) (sym some) }
