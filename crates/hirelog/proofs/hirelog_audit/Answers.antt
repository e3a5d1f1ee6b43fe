-- Number and bytes are the audit's; demand 3 stands on them, for slices of bytes.
use mathlib.Core.Path.{◌∙◌}
use Prim.Native.Nat.{ℕ, ◌<◌}
use lib.ListN.{get_or}
use Rattle.words.proofs.Laws.{bytes_each}
use Rattle.report.proofs.Demand3.{naming, fairness}
use Rattle.hirelog.proofs.hirelog_audit.Goals as goal

pub returns : goal.returns
returns c =
    let a = c.args in
    let number = c.number_of.ensures ∙ c.audit.ensures.number in
    let bytes = c.audit.ensures.bytes in
    let one : (i : ℕ) → get_or a.first.now i 0 < 256 = λ i. (c.type_inv.first i).fits in
    let two : (i : ℕ) → get_or a.second.now i 0 < 256 = λ i. (c.type_inv.second i).fits in record {
      number = number;
      bytes = bytes;
      naming = rw (number, bytes) (naming a.roster.now a.first.now a.second.now a.report.now);
      fairness = rw (number, bytes)
          (fairness a.roster.now a.first.now a.second.now a.report.now (bytes_each a.first.now one) (bytes_each a.second.now two));
    }
