-- One leader certificate a turn, with the next one's last index and pointer, which are its term's last record; the last term's are the log's.
use mathlib.Core.Path.{◌≡◌}
use mathlib.Core.List.{◌++◌, map}
use Prim.Native.Nat.{◌+◌, ◌-◌, ◌*◌, ◌≤◌}
use lib.ListN.{length}
use Rattle.lm_format.specs.Leaf.{leaf_size}
use Rattle.log_chain.specs.Records.{records_of}
use Rattle.submission.specs.View.{leads, stamp_of}
use Rattle.submission.specs.Reading.{certificates_end, view}
use Rattle.submission.specs.Validate.{uses}
use Rattle.submission_leaves.specs.Entries.{padded_use, entry_uses}
use Rattle.submission_uses.specs.Signed.{slot_use_in}
use Rattle.submission_uses.proofs.StampUses.{StampsToPut}
use Rattle.submission_uses.proofs.stamps.add_stamps.Given as goal

abbrev pub invariant-loop : goal.invariant-loop
invariant-loop l =
    let w = l.shape.width in
    let S = l.shape.size in
    let left = l.shape.leaders + 1 - l.counter in
    (certificates_end w S l.s left l.at ≤ length l.s) × (l.stamp + left * S ≤ length l.s) × (l.count + left ≤ l.n + l.shape.leaders) × (length l.buffer ≡ length l.initial.buffer)
    × ((wide : leaf_size ≤ S) → StampsToPut l.roster l.s w S l.k wide (records_of w l.shape.records l.s)
    (entry_uses l.n l.initial.buffer ++ map padded_use (uses (slot_use_in w l.roster) l.k (map (stamp_of S) (leads (view w S l.s))))) (entry_uses l.count l.buffer) left l.at l.stamp)
