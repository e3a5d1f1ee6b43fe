-- One leader certificate a turn: the votes of those that are left give what all of them give.
use mathlib.Core.Path.{◌≡◌}
use mathlib.Core.Bool.{true}
use mathlib.Core.List.{flat_map}
use Prim.Native.Nat.{◌-◌, ◌≤◌}
use lib.ListN.{length}
use Rattle.refusal.specs.Checks.{every}
use Rattle.roster.specs.Roster.{cluster, replicas}
use Rattle.log_chain.specs.Log.{with_terms}
use Rattle.submission.specs.Reading.{certificates, certificates_end, view}
use Rattle.submission.specs.Validate.{genuine}
use Rattle.submission_signatures.specs.Votes.{ballots}
use Rattle.submission_signatures.proofs.Quorate.{quorate_all}
use Rattle.submission_signatures.proofs.votes.votes_good.Given as goal

abbrev pub invariant-loop : goal.invariant-loop
invariant-loop l =
    let w = l.shape.width in
    let S = l.shape.size in
    let left = l.shape.leaders - l.counter in
    (certificates_end w S l.s left l.at ≤ length l.s) × (quorate_all (replicas l.roster) (certificates w S l.s left l.at) ≡ true)
    × (every (genuine (with_terms w (cluster l.roster)) l.roster) (flat_map (ballots S) (certificates w S l.s left l.at))
    ≡ every (genuine (with_terms w (cluster l.roster)) l.roster) (flat_map (ballots S) (view w S l.s).leaders))
