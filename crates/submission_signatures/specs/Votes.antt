-- Check 15 on the votes of a leader certificate.
use Rattle.std.specs.Prelude.{List, ℕ}
use Rattle.roster.specs.Masks.{replicas_of}
use Rattle.log_chain.specs.Claim.{voted}
use Rattle.submission.specs.View.{Certificate, Slot, certified}

-- the votes of a leader certificate
unfoldable pub ballots : ℕ → Certificate → List Slot
ballots S c = certified S (voted c.ballot) (replicas_of c.signers) c.signatures
