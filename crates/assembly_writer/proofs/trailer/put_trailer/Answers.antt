-- The name at the start, and the numbers into the rest.
use native.Mathlib.Omega.{arith}
use Rattle.words.proofs.Over.{begun-long, rest-inside, rest-room, rest_put}
use Rattle.assembly_writer.specs.Parts.{trailer_part}
use Rattle.assembly_writer.proofs.Heads.{name-room, name-begun}
use Rattle.assembly_writer.proofs.trailer.put_trailer.Goals as goal

pub put_bytes-requires : goal.put_bytes-requires
put_bytes-requires c = let a = c.args in omega (arith, name-room a.name.now _ a.out.now c.requires)

pub slice_bounds-rest-count : goal.slice_bounds-rest-count
slice_bounds-rest-count c = let a = c.args in omega (arith, name-room a.name.now _ a.out.now c.requires)

pub slice_bounds-rest-start : goal.slice_bounds-rest-start
slice_bounds-rest-start c = let a = c.args in omega (arith, name-room a.name.now _ a.out.now c.requires)

pub put_fields-requires : goal.put_fields-requires
put_fields-requires c =
    let a = c.args in
    let b = name-begun a.name.now a.fields a.out.now c.requires c.put_bytes.ensures in
    rest-room b

pub overflow_add-result : goal.overflow_add-result
overflow_add-result c =
    let a = c.args in
    let b = name-begun a.name.now a.fields a.out.now c.requires c.put_bytes.ensures in
    omega (arith, rest-inside b, begun-long b, c.put_fields.ensures.size)

pub returns : goal.returns
unfolding trailer_part
returns c =
    let a = c.args in
    let b = name-begun a.name.now a.fields a.out.now c.requires c.put_bytes.ensures in
    let it = rest_put b c.put_fields.ensures.size c.put_fields.ensures.bytes in
    record { size = it.0; bytes = it.1 }
