-- The log, parts 2 to 4, the trailer: each begins where the last one ended.
use mathlib.Core.Path.{sym, ap, ◌∙◌}
use Prim.Native.Nat.{◌<◌}
use native.Mathlib.Omega.{arith}
use borrow.Author.Rules.{rules}
use lib.ListN.{length}
use Rattle.words.specs.Over.{over}
use Rattle.words.proofs.Laws.{bytes_each}
use Rattle.words.proofs.Over.{begun-long, rest-inside, rest-room, rest_put}
use Rattle.roster.specs.Roster.{cluster}
use Rattle.assembly_writer.proofs.Planned.{votes-room, index-small, bytes-parts, log-room, log-begun, sizes-small, certified-put}
use Rattle.assembly_writer.proofs.write.Goals as goal

pub put_bytes-requires : goal.put_bytes-requires
put_bytes-requires c =
    let a = c.args in
    let known = bytes_each a.log.now (λ j. (c.type_inv.log j).fits) in
    let inside = log-room c.requires.0 known a.out.now c.requires.1 in
    omega (arith, inside)

pub slice_bounds-rest-count : goal.slice_bounds-rest-count
slice_bounds-rest-count c =
    let a = c.args in
    let known = bytes_each a.log.now (λ j. (c.type_inv.log j).fits) in
    let inside = log-room c.requires.0 known a.out.now c.requires.1 in
    omega (arith, inside)

pub slice_bounds-rest-start : goal.slice_bounds-rest-start
slice_bounds-rest-start c =
    let a = c.args in
    let known = bytes_each a.log.now (λ j. (c.type_inv.log j).fits) in
    let inside = log-room c.requires.0 known a.out.now c.requires.1 in
    omega (arith, inside)

pub put_certified-sizes-requires : goal.put_certified-sizes-requires
put_certified-sizes-requires c =
    let a = c.args in
    let known = bytes_each a.log.now (λ j. (c.type_inv.log j).fits) in
    let plan = c.requires.0 in
    let b = log-begun plan known a.out.now c.requires.1 c.put_bytes.ensures in
    (plan.held, votes-room plan, index-small plan, rest-room b)

pub trailer_fields-fields-requires : goal.trailer_fields-fields-requires
trailer_fields-fields-requires c =
    let a = c.args in
    let known = bytes_each a.log.now (λ j. (c.type_inv.log j).fits) in
    let put = c.put_certified-sizes.ensures in
    let small = sizes-small c.requires.0 known a.out.now c.requires.1 put.sizes in
    let plan = c.requires.0 in
    (omega (arith, plan.records), omega (arith, plan.held.few), small)

pub overflow_add-at : goal.overflow_add-at
overflow_add-at c =
    let a = c.args in
    let known = bytes_each a.log.now (λ j. (c.type_inv.log j).fits) in
    let put = c.put_certified-sizes.ensures in
    let small = sizes-small c.requires.0 known a.out.now c.requires.1 put.sizes in
    omega (arith, small)

pub overflow_add-at-2 : goal.overflow_add-at-2
overflow_add-at-2 c =
    let a = c.args in
    let known = bytes_each a.log.now (λ j. (c.type_inv.log j).fits) in
    let put = c.put_certified-sizes.ensures in
    let small = sizes-small c.requires.0 known a.out.now c.requires.1 put.sizes in
    omega (arith, small)

pub overflow_add-at-3 : goal.overflow_add-at-3
overflow_add-at-3 c =
    let a = c.args in
    let known = bytes_each a.log.now (λ j. (c.type_inv.log j).fits) in
    let put = c.put_certified-sizes.ensures in
    let small = sizes-small c.requires.0 known a.out.now c.requires.1 put.sizes in
    omega (arith, small)

pub slice_bounds-end-count : goal.slice_bounds-end-count
slice_bounds-end-count c =
    let a = c.args in
    let known = bytes_each a.log.now (λ j. (c.type_inv.log j).fits) in
    let put = c.put_certified-sizes.ensures in
    let left = certified-put c.requires.0 known a.out.now c.requires.1 put.sizes c.put_bytes.ensures put.bytes in
    omega (arith, rest-inside left)

pub slice_bounds-end-start : goal.slice_bounds-end-start
slice_bounds-end-start c =
    let a = c.args in
    let known = bytes_each a.log.now (λ j. (c.type_inv.log j).fits) in
    let put = c.put_certified-sizes.ensures in
    let left = certified-put c.requires.0 known a.out.now c.requires.1 put.sizes c.put_bytes.ensures put.bytes in
    omega (arith, rest-inside left)

pub put_trailer-requires : goal.put_trailer-requires
unfolding cluster
put_trailer-requires c =
    let a = c.args in
    let known = bytes_each a.log.now (λ j. (c.type_inv.log j).fits) in
    let put = c.put_certified-sizes.ensures in
    let left = certified-put c.requires.0 known a.out.now c.requires.1 put.sizes c.put_bytes.ensures put.bytes in
    rw c.trailer_fields-fields.ensures (rest-room left)

pub overflow_add-result : goal.overflow_add-result
unfolding cluster
overflow_add-result c =
    let a = c.args in
    let known = bytes_each a.log.now (λ j. (c.type_inv.log j).fits) in
    let put = c.put_certified-sizes.ensures in
    let left = certified-put c.requires.0 known a.out.now c.requires.1 put.sizes c.put_bytes.ensures put.bytes in
    let e = rw c.trailer_fields-fields.ensures at c.put_trailer.ensures in
    let fits : length a.out.now < 18446744073709551616 = search rules in
    omega (arith, rest-inside left, begun-long left, fits, e.size)

pub returns : goal.returns
unfolding cluster
returns c =
    let a = c.args in
    let known = bytes_each a.log.now (λ j. (c.type_inv.log j).fits) in
    let put = c.put_certified-sizes.ensures in
    let left = certified-put c.requires.0 known a.out.now c.requires.1 put.sizes c.put_bytes.ensures put.bytes in
    let e = rw c.trailer_fields-fields.ensures at c.put_trailer.ensures in
    let whole = bytes-parts c.requires.0 known put.sizes in
    let end = rest_put left e.size e.bytes in
    record { size = end.0 ∙ sym (ap length whole); bytes = end.1 ∙ ap (λ z. over z a.out.now) (sym whole) }
