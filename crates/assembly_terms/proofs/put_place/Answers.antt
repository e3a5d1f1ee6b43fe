-- Term, index and pointer, one behind the other.
use Prim.Native.Nat.{◌+◌}
use native.Mathlib.Omega.{arith}
use Rattle.words.specs.BigEndian.{be}
use Rattle.words.proofs.Laws.{length-be}
use Rattle.sha256.specs.Sha256.{bytes_of}
use Rattle.lm_hash.proofs.Values.{length-bytes}
use Rattle.assembly_terms.proofs.Tables.{three_put}
use Rattle.assembly_terms.proofs.put_place.Goals as goal

pub returns : goal.returns
returns c =
    let a = c.args in
    let parts =
    three_put a.out.now (be a.width a.term) (be 4 a.index) (bytes_of a.pointer) a.width (a.width + 4) (length-be a.width a.term)
    (rw (length-be 4 a.index)) (omega (arith, c.requires.1, length-bytes a.pointer)) in
    record { size = c.stamp_tail.ensures.0; bytes = rw (c.put_value.ensures, c.put_u32.ensures, c.put_number.ensures) parts }
