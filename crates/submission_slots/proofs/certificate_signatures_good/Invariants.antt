-- One bit of the mask a turn: the signatures of the replicas that are left give what all of them give. A replica's key lies inside, since no bit
-- stands above replica n.
use mathlib.Core.Path.{◌≡◌}
use Prim.Native.Nat.{◌+◌, ◌-◌, ◌*◌, ◌/◌, ◌^◌, ◌≤◌, ◌<◌}
use lib.Count.{ones}
use lib.ListN.{length, drop}
use Rattle.roster.specs.Roster.{replicas}
use Rattle.roster.specs.Masks.{replicas_of}
use Rattle.submission_slots.specs.Signatures.{good_all}
use Rattle.submission_slots.proofs.Signed.{good_from}
use Rattle.submission_slots.proofs.certificate_signatures_good.Given as goal

abbrev pub invariant-loop-k : goal.invariant-loop-k
invariant-loop-k l =
    (l.mask / 2 ^ l.k < 2 ^ (replicas l.roster - l.k)) × (l.from + l.size * ones (l.mask / 2 ^ l.k) ≤ length l.s)
    × (good_from l.roster l.message l.size l.s l.k (l.mask / 2 ^ l.k) l.from ≡ good_all l.roster l.message l.size (replicas_of l.mask) (drop l.at l.s))
