-- The stamps first; without a commit certificate there are no receipts, with one its pointer is that of the committed records.
use mathlib.Core.Path.{sym, ap, ◌∙◌}
use mathlib.Core.List.{[]}
use Rattle.log_chain.specs.Log.{with_terms, pointer}
use Rattle.submission.specs.Reading.{view}
use Rattle.submission_parts.proofs.Commits.{absent-says, found-says}
use Rattle.submission_parts.proofs.Shapes.{known-records}
use Rattle.submission_signatures.proofs.Facts.{commit-records}
use Rattle.submission_signatures.proofs.Fifteen.{first_fails, second_holds, no-receipts, with-receipts}
use Rattle.submission_signatures.proofs.places_good.Goals as goal

pub stamps_good-requires : goal.stamps_good-requires
unfolding view
stamps_good-requires c =
    let p = c.requires in
    (p.0, rw (known-records _ _ p.0.counted.laid.known) p.1.last)

pub returns-then-not-stamps_good : goal.returns-then-not-stamps_good
returns-then-not-stamps_good c = first_fails _ (sym c.stamps_good.ensures ∙ c.if-not-stamps_good.true)

pub commit_part-requires : goal.commit_part-requires
commit_part-requires c = let known = c.requires.0.counted.laid.known in (known.bounds, known.layout)

pub returns-in_default : goal.returns-in_default
unfolding view
returns-in_default c =
    let a = c.args in
    let none-there = absent-says _ _ _ (sym c.commit_part.ensures ∙ c.in_default.is) in
    sym (c.if-not-stamps_good.false) ∙ c.stamps_good.ensures
    ∙ second_holds _ (no-receipts _ a.shape.size (view a.shape.width a.shape.size a.s.now) none-there)

pub receipts_good-requires : goal.receipts_good-requires
receipts_good-requires c =
    let a = c.args in
    let checked = c.requires.0 in
    let told = found-says _ _ _ (sym c.commit_part.ensures ∙ c.in-Some.is) in
    let there = commit-records _ _ _ checked.counted.laid _ told.2 checked.commit in
    (checked, told.1, told.2, c.requires.1.committed ∙ ap (pointer (with_terms a.shape.width [])) there)

pub returns : goal.returns
unfolding view
returns c =
    let a = c.args in
    let told = found-says _ _ _ (sym c.commit_part.ensures ∙ c.in-Some.is) in
    with-receipts _ a.shape.size (view a.shape.width a.shape.size a.s.now) told.2
    (sym c.stamps_good.ensures ∙ c.if-not-stamps_good.false)
    (rw (known-records _ _ c.requires.0.counted.laid.known) at c.receipts_good.ensures)
