-- Two leaves that differ end it; the messages decide.
use mathlib.Core.Path.{sym, ◌∙◌}
use Rattle.submission_leaves.proofs.Entries.{other-leaf, by-messages}
use Rattle.submission_leaves.proofs.entries_reused.Goals as goal

pub returns-then-u32_at : goal.returns-then-u32_at
returns-then-u32_at c =
    let one = c.u32_at.ensures.0 in
    let other = c.u32_at-2.ensures.0 in
    other-leaf _ _ _ (λ e. c.if-u32_at.true (one ∙ e ∙ sym other))

pub returns : goal.returns
returns c =
    let one = c.u32_at.ensures.0 in
    let other = c.u32_at-2.ensures.0 in
    c.ne.ensures ∙ by-messages _ _ _ (sym one ∙ c.if-u32_at.false ∙ other)
