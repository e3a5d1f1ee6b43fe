-- Number and bytes are the district's; demand 3 stands on them, for a buffer of bytes.
use mathlib.Core.Path.{◌∙◌}
use Prim.Native.Nat.{ℕ, ◌<◌}
use lib.ListN.{get_or}
use Rattle.words.proofs.Laws.{bytes_each}
use Rattle.district.proofs.Demand3.{district-naming, district-fairness}
use Rattle.hirelog.proofs.hirelog_district.Goals as goal

pub returns : goal.returns
returns c =
    let a = c.args in
    let number = c.number_of.ensures ∙ c.audit.ensures.number in
    let bytes = c.audit.ensures.bytes in
    let each : (i : ℕ) → get_or a.buffer.now i 0 < 256 = λ i. (c.type_inv.buffer i).fits in record {
      number = number;
      bytes = bytes;
      naming = rw (number, bytes) (district-naming a.roster.now a.buffer.now a.lengths.now a.report.now);
      fairness = rw (number, bytes)
          (district-fairness a.roster.now a.buffer.now a.lengths.now a.report.now (bytes_each a.buffer.now each));
    }
