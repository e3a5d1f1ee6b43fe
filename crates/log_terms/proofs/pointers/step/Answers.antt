-- The hash of the next index, the record's bytes and the pointer before.
use mathlib.Core.Path.{◌≡◌}
use mathlib.Core.List.{[], ◌++◌}
use Prim.Native.Nat.{ℕ, ◌+◌, ◌-◌, ◌*◌, ◌≤◌}
use native.Mathlib.Nat.{mul-suc}
use native.Mathlib.Numerals.{add-one}
use native.Mathlib.Omega.{arith}
use lib.ListN.{take, drop, length-take, length-drop}
use Rattle.words.specs.BigEndian.{be}
use Rattle.words.proofs.Laws.{bytes_each}
use Rattle.sha256.specs.Sha256.{sha256}
use Rattle.log_chain.specs.Log.{with_terms, pointer}
use Rattle.log_chain.specs.Records.{record_size, records_of}
use Rattle.log_terms.proofs.Next.{pointer_next}
use Rattle.log_terms.proofs.pointers.step.Goals as goal

-- where the record's part ends
part_end : (n i size most : ℕ) → size ≡ n → n * (i + 1) ≤ most → size * i + size ≤ most
part_end n i size most e h = rw (e, ← mul-suc) (rw add-one at h)

pub overflow_mul-start : goal.overflow_mul-start
overflow_mul-start c =
    omega (arith, part_end (record_size c.args.width) c.args.i _ _ c.record_size-size.ensures.0 c.requires.2)

pub overflow_add-end : goal.overflow_add-end
overflow_add-end c =
    omega (arith, part_end (record_size c.args.width) c.args.i _ _ c.record_size-size.ensures.0 c.requires.2)

pub slice_bounds-next_pointer-end : goal.slice_bounds-next_pointer-end
slice_bounds-next_pointer-end c =
    part_end (record_size c.args.width) c.args.i _ _ c.record_size-size.ensures.0 c.requires.2

pub next_pointer-requires : goal.next_pointer-requires
next_pointer-requires c = simp (length-take, length-drop) (omega (arith, c.record_size-size.ensures.1))

pub returns : goal.returns
returns c =
    let a = c.args in
    let s = a.s.now in
    let i = a.i in
    let w = a.width in
    let size = c.record_size-size.result in
    let bytes = bytes_each s (λ j. (c.type_inv.s j).fits) in
    let whole : size * i + size - size * i ≡ size = omega arith in
    let next : pointer (with_terms w []) (records_of w (i + 1) s)
    ≡ sha256 (be 4 (i + 1) ++ take (record_size w) (drop (record_size w * i) s) ++ pointer (with_terms w []) (records_of w i s)) =
    rw add-one (pointer_next w i s bytes (rw add-one at c.requires.2)) in
    rw (next, ← c.requires.3, ← c.record_size-size.ensures.0) (rw whole at c.next_pointer.ensures)
