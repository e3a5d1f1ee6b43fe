-- The union takes in the pair's mask, and the fork is the pair's or a later one.
use mathlib.Core.Path.{◌≡◌, ◌∙◌}
use borrow.Author.Rules.{rules}
use Rattle.std.specs.Prelude.{option_map}
use Rattle.forensics_charges.specs.Charges.{findings_of}
use Rattle.district_pairs.specs.Entries.{before}
use Rattle.district_pairs.proofs.Walk.{own_fork, own_or_later}
use Rattle.district_pairs.proofs.with_pair.Goals as goal

pub returns : goal.returns
unfolding before findings_of
returns c =
    let a = c.args in
    let own : c.map-own.result ≡ option_map (own_fork a.lower a.higher) a.found.fork = search rules in
    rw (c.or-fork.ensures ∙ own_or_later a.found.fork a.lower a.higher a.later.fork c.requires own, c.named_mask.ensures)
