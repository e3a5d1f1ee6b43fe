-- One leader certificate a turn, with the next one's last index and pointer, which are its term's last record; the last term's are the log's.
-- What a turn and the last stamp ask for is one list, said in both needs: a need cannot be handed what another has named.
use mathlib.Core.List.{map}
use Prim.Native.Nat.{◌+◌, ◌-◌, ◌*◌, ◌≤◌}
use lib.ListN.{length}
use Rattle.refusal.specs.Checks.{every}
use Rattle.roster.specs.Roster.{cluster}
use Rattle.log_chain.specs.Log.{with_terms}
use Rattle.submission.specs.View.{leads, stamp_of}
use Rattle.log_chain.specs.Records.{records_of}
use Rattle.submission.specs.Reading.{certificates_end, view}
use Rattle.submission.specs.Validate.{genuine}
use Rattle.submission_signatures.proofs.StampsLeft.{StampsLeft}
use Rattle.submission_signatures.proofs.stamps.stamps_good.Given as goal

abbrev pub invariant-loop : goal.invariant-loop
invariant-loop l =
    let w = l.shape.width in
    let S = l.shape.size in
    let left = l.shape.leaders + 1 - l.counter in
    (certificates_end w S l.s left l.at ≤ length l.s) × (l.stamp + left * S ≤ length l.s)
    × StampsLeft l.roster l.s w S (records_of w l.shape.records l.s)
    (every (genuine (with_terms w (cluster l.roster)) l.roster) (map (stamp_of S) (leads (view w S l.s)))) left l.at l.stamp
