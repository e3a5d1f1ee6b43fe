-- The chain string in two pieces, hashed one after the other.
use mathlib.Core.Path.{◌≡◌}
use native.Mathlib.Omega.{arith}
use borrow.Author.Rules.{rules}
use lib.ListN.{length, length-take}
use Rattle.log_chain.proofs.next_pointer.Goals as goal

pub slice_bounds-joined-end : goal.slice_bounds-joined-end
slice_bounds-joined-end c =
    let long : length c.head-h.result ≡ 44 = search rules in
    rw length-take (omega (arith, long, c.requires))

pub joined-requires : goal.joined-requires
joined-requires c =
    let long : length c.head-h.result ≡ 44 = search rules in
    let whole : length c.bytes-p.result ≡ 32 = search rules in
    (rw length-take (omega (arith, long, c.requires)), omega (arith, whole))

pub returns : goal.returns
returns c = simp (c.joined.ensures, c.head-h.ensures, c.bytes-p.ensures)
