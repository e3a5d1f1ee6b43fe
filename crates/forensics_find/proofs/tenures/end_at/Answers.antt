-- With no certificate left the term ends with the log; otherwise where the next one says.
use mathlib.Core.Path.{◌∙◌}
use native.Mathlib.Omega.{arith}
use Rattle.forensics_find.proofs.Numbers.{ends-log, ends_next}
use Rattle.forensics_find.proofs.tenures.end_at.Goals as goal

pub returns-then-later-eq0 : goal.returns-then-later-eq0
returns-then-later-eq0 c = c.record_count.ensures.0 ∙ ends-log _ _ _ _ c.if-later-eq0.true

pub returns : goal.returns
returns c = c.u32_at.ensures.0 ∙ ends_next _ _ _ _ (omega (arith, c.if-later-eq0.false))
