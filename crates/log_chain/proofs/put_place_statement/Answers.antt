-- The kind, then the name, term, index and pointer.
use mathlib.Core.Path.{◌≡◌, refl}
use Prim.Native.Nat.{◌+◌, ◌≤◌}
use native.Mathlib.Omega.{arith}
use lib.ListN.{length, set, length-set, length-append}
use lib.Seq.{length-sets}
use Rattle.words.specs.BigEndian.{be}
use Rattle.words.proofs.Laws.{length-be}
use Rattle.sha256.specs.Sha256.{bytes_of}
use Rattle.lm_hash.proofs.Values.{length-bytes}
use Rattle.log_chain.specs.Sizes.{place_statement}
use Rattle.log_chain.proofs.Statements.{place-parts}
use Rattle.log_chain.proofs.put_place_statement.Goals as goal

pub put_bytes-requires : goal.put_bytes-requires
put_bytes-requires c =
    let a = c.args in
    let room : 1 + length a.name.now ≤ length (set a.out.now 0 a.kind) = rw length-set (omega (arith, c.requires.1)) in
    room

pub put_number-requires : goal.put_number-requires
put_number-requires c =
    let a = c.args in
    let long : length c.put_bytes.new.out ≡ length a.out.now = rw (c.put_bytes.ensures, length-sets, length-set) in
    let room : 1 + length a.name.now + a.width ≤ length c.put_bytes.new.out = omega (arith, c.requires.1, long) in
    (room, c.requires.0)

pub put_u32-requires : goal.put_u32-requires
put_u32-requires c =
    let a = c.args in
    let long : length c.put_number.new.out ≡ length a.out.now =
    rw (c.put_number.ensures, length-sets, c.put_bytes.ensures, length-sets, length-set) in
    let room : 1 + length a.name.now + a.width + 4 ≤ length c.put_number.new.out = omega (arith, c.requires.1, long) in
    room

pub put_value-requires : goal.put_value-requires
put_value-requires c =
    let a = c.args in
    let long : length c.put_u32.new.out ≡ length a.out.now =
    rw (c.put_u32.ensures, length-sets, c.put_number.ensures, length-sets, c.put_bytes.ensures, length-sets, length-set) in
    let room : 1 + length a.name.now + a.width + 4 + 32 ≤ length c.put_u32.new.out = omega (arith, c.requires.1, long) in
    room

pub shape_of-out : goal.shape_of-out
shape_of-out c =
    let a = c.args in
    let long : length c.put_value.new.out ≡ length a.out.now =
    rw (
      c.put_value.ensures,
      length-sets,
      c.put_u32.ensures,
      length-sets,
      c.put_number.ensures,
      length-sets,
      c.put_bytes.ensures,
      length-sets,
      length-set,
    ) in
    long

pub returns : goal.returns
returns c =
    let a = c.args in
    let fields = 1 + length a.name.now in
    let parts =
    place-parts a.out.now a.name.now (be a.width a.term) (be 4 a.index) (bytes_of a.pointer) a.kind fields a.width refl
    (length-be a.width a.term) (length-be 4 a.index) (length-bytes a.pointer) (omega (arith, c.requires.1)) in
    let size : fields + a.width + 4 + 32 ≡ length (place_statement a.kind a.name.now a.width a.term a.index (bytes_of a.pointer)) =
    rw (length-append, length-append, length-append, length-be, length-be, length-bytes a.pointer) (omega arith) in
    record { size = size; bytes = rw (c.put_value.ensures, c.put_u32.ensures, c.put_number.ensures, c.put_bytes.ensures) parts }
