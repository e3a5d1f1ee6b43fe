-- The two names are compared byte by byte.
use mathlib.Core.Path.{◌≡◌, ◌∙◌}
use Prim.Native.Nat.{◌+◌, ◌-◌}
use native.Mathlib.Omega.{arith}
use lib.ListN.{take, drop}
use Rattle.words.proofs.Same.{pointwise_same}
use Rattle.roster.specs.Roster.{name_size, cluster}
use Rattle.submission.specs.Trailer.{name}
use Rattle.submission.specs.Validate.{named}
use Rattle.submission_trailer.proofs.name_matches.Goals as goal

pub returns : goal.returns
unfolding named name cluster
returns c =
    let t = c.trailer_at-at in
    let count : t.result + name_size - t.result ≡ name_size = omega arith in
    c.eq.ensures
    ∙ (pointwise_same (take (t.result + name_size - t.result) (drop t.result c.args.s.now)) (take name_size c.args.roster.now) ∙ rw (count, t.ensures))
