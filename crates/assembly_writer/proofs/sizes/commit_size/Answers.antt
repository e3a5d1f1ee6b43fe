-- Nothing, or the index, signers and signatures.
use mathlib.Core.List.{[]}
use native.Mathlib.Omega.{arith}
use Rattle.words.proofs.Laws.{part_end}
use Rattle.assembly_writer.proofs.Heads.{commit-none, commit-long}
use Rattle.assembly_writer.proofs.sizes.commit_size.Goals as goal

pub returns-then-row-eq0 : goal.returns-then-row-eq0
returns-then-row-eq0 c =
    let a = c.args in
    record { size = λ item_bytes held. (commit-none a.plan.size item_bytes a.plan.replicas a.row.now [] c.if-row-eq0.true).0; most = omega arith }

pub returns : goal.returns
returns c =
    let a = c.args in
    let long = rw (part_end a.row.now 2) at c.signed_size.ensures.size in record {
      size = λ item_bytes held.
          omega (
            arith,
            long item_bytes held,
            commit-long a.plan.size item_bytes a.plan.replicas a.row.now [] c.if-row-eq0.false,
          );
      most = omega (arith, c.signed_size.ensures.most);
    }
