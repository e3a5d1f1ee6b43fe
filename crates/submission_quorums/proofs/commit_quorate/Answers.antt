-- The commit certificate is the definition's, and so are its signers.
use mathlib.Core.Path.{sym, ◌∙◌}
use Rattle.submission_quorums.proofs.Quorums.{commit-signers, no-signers}
use Rattle.submission_quorums.proofs.commit_quorate.Goals as goal

pub returns-in_default : goal.returns-in_default
returns-in_default c =
    let a = c.args in
    no-signers a.width a.size a.s.now a.n (sym c.commit_part.ensures ∙ c.in_default.is)

pub returns : goal.returns
returns c =
    let a = c.args in
    c.mask_quorate.ensures ∙ commit-signers a.width a.size a.s.now a.n (sym c.commit_part.ensures ∙ c.in-Some.is)
