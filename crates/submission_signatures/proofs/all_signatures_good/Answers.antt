-- The votes first, then stamps and receipts.
use mathlib.Core.Path.{sym, ◌∙◌}
use Rattle.submission_parts.proofs.Shapes.{leader-count, stamp-count}
use Rattle.submission_signatures.proofs.Fifteen.{parts, first_fails, first_holds}
use Rattle.submission_signatures.proofs.all_signatures_good.Goals as goal

pub votes_good-requires : goal.votes_good-requires
votes_good-requires c = c.requires.0

pub returns-else-votes_good : goal.returns-else-votes_good
returns-else-votes_good c =
    let p = c.requires.0 in
    let k = p.counted.laid.known in
    c.if-votes_good.false
    ∙ first_fails _ (sym c.votes_good.ensures ∙ c.if-votes_good.false)
    ∙ sym (parts _ _ _ p.counted.count (stamp-count _ _ k ∙ sym (leader-count _ _ k)))

pub places_good-requires : goal.places_good-requires
places_good-requires c = c.requires

pub returns-then-votes_good : goal.returns-then-votes_good
returns-then-votes_good c =
    let p = c.requires.0 in
    let k = p.counted.laid.known in
    c.places_good.ensures
    ∙ first_holds _ (sym c.votes_good.ensures ∙ c.if-votes_good.true)
    ∙ sym (parts _ _ _ p.counted.count (stamp-count _ _ k ∙ sym (leader-count _ _ k)))
