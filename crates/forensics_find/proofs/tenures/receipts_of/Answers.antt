-- The commit certificate is the definition's; the term of its record is that of the log up to it.
use mathlib.Core.Path.{sym, ◌∙◌}
use Rattle.forensics_find.proofs.Committed.{no-receipts, record_inside, some-receipts}
use Rattle.forensics_find.proofs.tenures.receipts_of.Goals as goal

pub returns-in_err-c : goal.returns-in_err-c
returns-in_err-c c =
    let a = c.args in
    c.from_residual.ensures ∙ no-receipts a.width a.size a.s.now (sym c.commit_part.ensures ∙ c.in_err-c.was)

pub last_term-term-requires : goal.last_term-term-requires
last_term-term-requires c =
    let a = c.args in
    let inside = record_inside a.width a.size a.s.now
    (sym c.commit_part.ensures ∙ c.in_ok-c.was) c.requires.2 c.requires.1 in
    (c.requires.0.width, inside)

pub returns : goal.returns
returns c =
    let a = c.args in
    some-receipts a.width a.size a.s.now
    (sym c.commit_part.ensures ∙ c.in_ok-c.was) c.requires.2
    c.last_term-term.ensures
