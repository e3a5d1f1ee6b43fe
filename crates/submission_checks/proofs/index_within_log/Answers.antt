-- The commit certificate is the definition's, and the log has H records.
use mathlib.Core.Path.{sym, ap, ◌∙◌}
use native.Mathlib.Omega.{arith}
use borrow.Author.Tests.{le-ltb}
use lib.Dec.{leb}
use Rattle.submission_parts.proofs.Shapes.{known-records}
use Rattle.submission_checks.proofs.CommitIndex.{no_index, zero-index, index-within}
use Rattle.submission_checks.proofs.index_within_log.Goals as goal

pub commit_part-requires : goal.commit_part-requires
commit_part-requires c = let p = c.requires in (p.bounds, p.layout)

pub returns-in_default : goal.returns-in_default
returns-in_default c = no_index _ _ _ (sym c.commit_part.ensures ∙ c.in_default.is)

pub returns-else-index-gt0 : goal.returns-else-index-gt0
returns-else-index-gt0 c =
    le-ltb _ _ c.if-index-gt0.false ∙ zero-index _ _ _ (sym c.commit_part.ensures ∙ c.in-Some.is) (omega arith)

pub returns-then-index-gt0 : goal.returns-then-index-gt0
returns-then-index-gt0 c =
    let told = sym c.commit_part.ensures ∙ c.in-Some.is in
    let p = c.requires in
    ap (leb _) (known-records _ _ p) ∙ index-within _ _ _ told (omega arith)
