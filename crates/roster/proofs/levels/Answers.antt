-- An unlisted height has no levels, and no height has more than 25.
use mathlib.Core.Path.{◌≡◌, ap, ◌∙◌}
use Rattle.std.specs.Prelude.{unwrap_or}
use Rattle.lm_format.specs.Format.{height}
use Rattle.roster.specs.Roster.{levels}
use Rattle.roster.proofs.Accepted.{levels-le}
use Rattle.roster.proofs.levels.Goals as goal

pub returns : goal.returns
unfolding levels
returns c =
    let e : c.unwrap_or.result ≡ unwrap_or (height c.args.number) 0 = c.unwrap_or.ensures ∙ ap (λ h. unwrap_or h 0) c.height_of.ensures in
    (e, rw e (levels-le c.args.number))
