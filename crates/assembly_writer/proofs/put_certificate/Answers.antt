-- The candidate and the end of the vote at the start, and signers and signatures into the rest.
use native.Mathlib.Omega.{arith}
use Rattle.words.proofs.Laws.{part_end}
use Rattle.words.proofs.Over.{begun-long, rest-inside, rest-room, rest_put}
use Rattle.assembly_writer.specs.Parts.{certificate_in}
use Rattle.assembly_writer.proofs.Heads.{certificate-head, certificate-begun}
use Rattle.assembly_writer.proofs.put_certificate.Goals as goal

pub put_u16-requires : goal.put_u16-requires
put_u16-requires c =
    let a = c.args in
    omega (arith, certificate-head a.plan.size a.items.now a.plan.replicas a.end.now a.row.now a.out.now c.requires.3)

pub put_bytes-requires : goal.put_bytes-requires
put_bytes-requires c =
    let a = c.args in
    omega (arith, certificate-head a.plan.size a.items.now a.plan.replicas a.end.now a.row.now a.out.now c.requires.3)

pub slice_bounds-rest-count : goal.slice_bounds-rest-count
slice_bounds-rest-count c =
    let a = c.args in
    omega (arith, certificate-head a.plan.size a.items.now a.plan.replicas a.end.now a.row.now a.out.now c.requires.3)

pub slice_bounds-rest-start : goal.slice_bounds-rest-start
slice_bounds-rest-start c =
    let a = c.args in
    omega (arith, certificate-head a.plan.size a.items.now a.plan.replicas a.end.now a.row.now a.out.now c.requires.3)

pub put_signed-requires : goal.put_signed-requires
put_signed-requires c =
    let a = c.args in
    let b = certificate-begun a.plan.size a.items.now a.plan.replicas a.end.now a.row.now a.out.now c.requires.3
    c.put_u16.ensures c.put_bytes.ensures in
    rw (part_end a.row.now 2) (c.requires.0, rest-room b)

pub overflow_add-result : goal.overflow_add-result
overflow_add-result c =
    let a = c.args in
    let b = certificate-begun a.plan.size a.items.now a.plan.replicas a.end.now a.row.now a.out.now c.requires.3
    c.put_u16.ensures c.put_bytes.ensures in
    let e = rw (part_end a.row.now 2) at c.put_signed.ensures in
    omega (arith, rest-inside b, begun-long b, e.size)

pub returns : goal.returns
unfolding certificate_in
returns c =
    let a = c.args in
    let b = certificate-begun a.plan.size a.items.now a.plan.replicas a.end.now a.row.now a.out.now c.requires.3
    c.put_u16.ensures c.put_bytes.ensures in
    let e = rw (part_end a.row.now 2) at c.put_signed.ensures in
    let it = rest_put b e.size e.bytes in
    record { size = it.0; bytes = it.1 }
