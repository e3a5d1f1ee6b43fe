-- Nothing, or the part of the bag that begins at the place.
use mathlib.Core.Path.{ap, ◌∙◌}
use native.Mathlib.Omega.{arith}
use lib.Seq.{sets}
use Rattle.words.proofs.Over.{over_first}
use Rattle.assembly_writer.proofs.Signatures.{none-put, signature-part, signature-long}
use Rattle.assembly_writer.proofs.put_signature.Goals as goal

pub returns-then-place-eq0 : goal.returns-then-place-eq0
returns-then-place-eq0 c =
    let a = c.args in
    let it = none-put a.size a.items.now a.place a.out.now c.if-place-eq0.true in
    record { size = it.0; bytes = it.1 }

pub put_bytes-requires : goal.put_bytes-requires
put_bytes-requires c =
    let a = c.args in
    omega (arith, ap lib.ListN.length (signature-part a.size a.items.now a.place c.if-place-eq0.false), c.requires.1)

pub returns : goal.returns
returns c =
    let a = c.args in
    let part = signature-part a.size a.items.now a.place c.if-place-eq0.false in record { size = signature-long a.size a.items.now a.place c.if-place-eq0.false c.requires.0; bytes = c.put_bytes.ensures ∙ ap (sets a.out.now 0) part ∙ over_first a.out.now _ c.requires.1 }
