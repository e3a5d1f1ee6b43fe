-- The signers at the start, and the signatures into the rest.
use mathlib.Core.Path.{◌≡◌, sym, ap, ◌∙◌}
use mathlib.Core.List.{List}
use Prim.Native.Nat.{ℕ, ◌+◌, ◌≤◌}
use native.Mathlib.Omega.{arith}
use lib.ListN.{length, length-append}
use lib.Seq.{sets}
use Rattle.words.specs.BigEndian.{be}
use Rattle.words.proofs.Laws.{length-be}
use Rattle.words.proofs.Over.{Begun, begun_first, begun-long, rest-inside, rest-room, rest_put}
use Rattle.submission_encoding.specs.Copies.{signers_of}
use Rattle.assembly_copies.specs.Rows.{copies_at}
use Rattle.assembly_writer.specs.Parts.{signatures_at, signed_at}
use Rattle.assembly_writer.proofs.put_signed.Goals as goal

module _ (S : ℕ) (item_bytes : List ℕ) (n : ℕ) (places e : List ℕ) (room : length (signed_at S item_bytes n places) ≤ length e) where
  abbrev mask : ℕ
  mask = signers_of (copies_at S item_bytes n places)

  head-room : 0 + 2 ≤ length e
  unfolding signed_at
  head-room = omega (arith, room, length-append (be 2 mask) (signatures_at S item_bytes n places), length-be 2 mask)

  begun : {m : ℕ} {out : List ℕ} → m ≡ mask → out ≡ sets e 0 (be 2 m) → Begun (be 2 mask) (signatures_at S item_bytes n places) e out 2
  unfolding signed_at
  begun h p = begun_first room (p ∙ ap (λ (k : ℕ). sets e 0 (be 2 k)) h) (sym (length-be 2 mask))

pub put_u16-requires : goal.put_u16-requires
put_u16-requires c =
    let a = c.args in
    omega (arith, head-room a.size a.items.now a.n a.places.now a.out.now c.requires.1)

pub slice_bounds-rest-count : goal.slice_bounds-rest-count
slice_bounds-rest-count c =
    let a = c.args in
    omega (arith, head-room a.size a.items.now a.n a.places.now a.out.now c.requires.1)

pub slice_bounds-rest-start : goal.slice_bounds-rest-start
slice_bounds-rest-start c =
    let a = c.args in
    omega (arith, head-room a.size a.items.now a.n a.places.now a.out.now c.requires.1)

pub put_signatures-requires : goal.put_signatures-requires
put_signatures-requires c =
    let a = c.args in
    let b = begun a.size a.items.now a.n a.places.now a.out.now c.requires.1
    (c.mask_of-signers.ensures a.size a.items.now)
    c.put_u16.ensures in
    (c.requires.0, rest-room b)

pub overflow_add-result : goal.overflow_add-result
overflow_add-result c =
    let a = c.args in
    let b = begun a.size a.items.now a.n a.places.now a.out.now c.requires.1
    (c.mask_of-signers.ensures a.size a.items.now) c.put_u16.ensures in
    omega (arith, rest-inside b, begun-long b, c.put_signatures.ensures.size)

pub returns : goal.returns
unfolding signed_at
returns c =
    let a = c.args in
    let b = begun a.size a.items.now a.n a.places.now a.out.now c.requires.1
    (c.mask_of-signers.ensures a.size a.items.now) c.put_u16.ensures in
    let it = rest_put b c.put_signatures.ensures.size c.put_signatures.ensures.bytes in
    record { size = it.0; bytes = it.1 }
