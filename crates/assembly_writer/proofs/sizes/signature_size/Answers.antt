-- None, or the bytes of a signature.
use mathlib.Core.List.{[]}
use native.Mathlib.Omega.{arith}
use Rattle.assembly_writer.proofs.Signatures.{none-put, signature-long}
use Rattle.assembly_writer.proofs.sizes.signature_size.Goals as goal

pub returns-then-place-eq0 : goal.returns-then-place-eq0
returns-then-place-eq0 c = let a = c.args in record { size = λ item_bytes h. (none-put a.size item_bytes a.place [] c.if-place-eq0.true).0; most = omega arith }

pub returns-else-place-eq0 : goal.returns-else-place-eq0
returns-else-place-eq0 c = let a = c.args in record { size = λ item_bytes h. signature-long a.size item_bytes a.place c.if-place-eq0.false h; most = omega arith }
