-- The digest, or what was there before where the message is refused.
use Rattle.sha256.specs.Service.{digest_after}
use Rattle.hirelog.proofs.hirelog_sha256.Goals as goal

pub returns-in-Ok-clause-bytes : goal.returns-in-Ok-clause-bytes
unfolding digest_after
returns-in-Ok-clause-bytes c = rw (← c.in-Ok.ensures.refused) c.in-Ok.ensures.digest

pub returns-in-Err-clause-bytes : goal.returns-in-Err-clause-bytes
unfolding digest_after
returns-in-Err-clause-bytes c = rw (← c.in-Err.ensures.refused)
