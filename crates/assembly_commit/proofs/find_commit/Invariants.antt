-- Index by index from the last down: where none so far has a quorum of receipts, the commit is that of those below.
use mathlib.Core.Path.{◌≡◌}
use Prim.Native.Nat.{◌≤◌}
use lib.ListN.{length}
use Rattle.roster.specs.Roster.{cluster}
use Rattle.log_chain.specs.Log.{with_terms}
use Rattle.log_chain.specs.Records.{records_of}
use Rattle.assembly.specs.Items.{items_of}
use Rattle.assembly.specs.Choice.{commit_to}
use Rattle.roster.specs.Sizes.{replicas_most}
use Rattle.assembly_commit.proofs.find_commit.Given as goal

abbrev pub invariant-loop-i : goal.invariant-loop-i
invariant-loop-i l =
    let form = with_terms l.widths.width (cluster l.roster) in
    let items = items_of l.widths.width l.widths.size l.items in
    let log = records_of l.widths.width l.widths.records l.log in
    (l.i ≤ l.widths.records) × (commit_to form l.roster items l.widths.records log ≡ commit_to form l.roster items l.i log)
    × (length l.places ≡ replicas_most) × (l.row ≡ l.initial.row)
