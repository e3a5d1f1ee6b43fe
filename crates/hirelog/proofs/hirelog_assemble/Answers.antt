-- Number, length and bytes are those of assembling; the claim stands on them, for a log of bytes.
use mathlib.Core.Path.{◌∙◌}
use Prim.Native.Nat.{ℕ, ◌<◌}
use lib.ListN.{get_or}
use Rattle.words.proofs.Laws.{bytes_each}
use Rattle.assembly.proofs.Claim.{claim}
use Rattle.hirelog.proofs.hirelog_assemble.Goals as goal

pub returns : goal.returns
returns c =
    let a = c.args in
    let e = c.assemble.ensures in
    let number = c.into.ensures.0 ∙ e.number in
    let size = c.into.ensures.1 ∙ e.length in
    let each : (i : ℕ) → get_or a.log.now i 0 < 256 = λ i. (c.type_inv.log i).fits in record { number = number; length = size; bytes = e.bytes; assembled = rw (number, size, e.bytes) (claim a.roster.now a.log.now a.items.now a.output.now (bytes_each a.log.now each)) }
