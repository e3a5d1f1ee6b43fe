-- The parts' bytes, one by one.
use Prim.Native.Nat.{◌*◌}
use native.Mathlib.Omega.{arith}
use Rattle.words.proofs.Laws.{bytes_each, part_end}
use Rattle.assembly_copies.specs.Rows.{taken_size}
use Rattle.assembly_writer.proofs.Rows.{commit-row-places}
use Rattle.assembly_writer.proofs.Planned.{votes-room, written-long}
use Rattle.assembly_writer.proofs.sizes.written_size.Goals as goal

pub returns : goal.returns
returns c =
    let a = c.args in
    let known = bytes_each a.log.now (λ j. (c.type_inv.log j).fits) in
    let commit = rw (part_end a.taken.now (taken_size * a.plan.leaders)) at c.commit_size-commit.ensures.size in
    λ roster item_bytes votes plan.
    omega (
      arith,
      written-long plan known,
      c.leads_size-leads.ensures.size item_bytes votes plan.held (votes-room plan),
      commit item_bytes (commit-row-places plan.held),
    )
