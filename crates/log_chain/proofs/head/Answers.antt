-- The index's bytes, then the record's.
use mathlib.Core.Path.{refl}
use Prim.Native.Nat.{◌+◌}
use native.Mathlib.Omega.{arith}
use lib.ListN.{length, replicate}
use Rattle.words.specs.BigEndian.{be}
use Rattle.words.proofs.Laws.{length-be}
use Rattle.log_chain.proofs.Statements.{two_parts}
use Rattle.log_chain.proofs.head.Goals as goal

pub returns : goal.returns
returns c =
    simp (c.put_bytes.ensures, c.put_u32.ensures)
    (two_parts (replicate 44 0) (be 4 c.args.index) c.args.fields.now 4 (4 + length c.args.fields.now)
    (length-be 4 c.args.index) refl (omega (arith, c.requires)))
