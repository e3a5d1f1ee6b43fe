-- One leader certificate a turn.
use mathlib.Core.Path.{◌≡◌}
use mathlib.Core.List.{◌++◌, map, flat_map}
use Prim.Native.Nat.{◌+◌, ◌-◌, ◌≤◌}
use lib.ListN.{length}
use Rattle.submission.specs.Reading.{certificates, certificates_end, view}
use Rattle.submission.specs.Validate.{uses}
use Rattle.submission_signatures.specs.Votes.{ballots}
use Rattle.submission_leaves.specs.Entries.{padded_use, entry_uses}
use Rattle.submission_uses.specs.Signed.{slot_use_in}
use Rattle.submission_uses.proofs.votes.add_votes.Given as goal

abbrev pub invariant-loop : goal.invariant-loop
invariant-loop l =
    let w = l.shape.width in
    let S = l.shape.size in
    let left = l.shape.leaders - l.counter in
    (certificates_end w S l.s left l.at ≤ length l.s) × (l.count + left ≤ l.n + l.shape.leaders) × (length l.buffer ≡ length l.initial.buffer)
    × (entry_uses l.count l.buffer ++ map padded_use (uses (slot_use_in w l.roster) l.k (flat_map (ballots S) (certificates w S l.s left l.at)))
    ≡ entry_uses l.n l.initial.buffer ++ map padded_use (uses (slot_use_in w l.roster) l.k (flat_map (ballots S) (view w S l.s).leaders)))
