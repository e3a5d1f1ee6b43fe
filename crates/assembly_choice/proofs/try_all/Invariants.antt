-- One candidate a turn, from n down.
use mathlib.Core.Path.{◌≡◌}
use mathlib.Core.List.{List}
use Prim.Native.Nat.{◌≤◌}
use lib.ListN.{length}
use Rattle.roster.specs.Roster.{cluster, replicas}
use Rattle.log_chain.specs.Log.{with_terms}
use Rattle.log_chain.specs.Runs.{Run}
use Rattle.assembly_terms.specs.Wanted.{VotesIn}
use Rattle.assembly_choice.specs.Chosen.{RowsHeld}
use Rattle.assembly_choice.specs.Settled.{StampsPlaced, Tried}
use Rattle.assembly_choice.proofs.Tried.{last_tried}
use Rattle.assembly_choice.proofs.try_all.Given as goal

abbrev pub invariant-loop-candidate : goal.invariant-loop-candidate
invariant-loop-candidate l =
    let n = replicas l.roster in
    let form = with_terms l.terms.width (cluster l.roster) in
    (l.candidate ≤ n) × (length l.votes ≡ length l.initial.votes) × (length l.taken ≡ length l.initial.taken) × RowsHeld l.terms.size l.items n l.terms.count l.taken
    × ((rs : List Run) → length rs ≡ l.terms.count → VotesIn form 0 rs l.initial.votes → VotesIn form (last_tried n l.candidate) rs l.votes)
    × ((rs : List Run) → length rs ≡ l.terms.count → VotesIn form 0 rs l.initial.votes → StampsPlaced l.roster l.items l.terms rs l.stamped
    → Tried l.roster l.items l.terms rs n l.initial.taken → Tried l.roster l.items l.terms rs l.candidate l.taken)
