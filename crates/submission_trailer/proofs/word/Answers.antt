-- The place is that of the definition.
use mathlib.Core.Path.{ap, ◌∙◌}
use Prim.Native.Nat.{ℕ, ◌+◌, ◌*◌}
use Rattle.words.specs.BigEndian.{number_at}
use Rattle.roster.specs.Roster.{name_size}
use Rattle.submission.specs.Trailer.{word}
use Rattle.submission_trailer.proofs.word.Goals as goal

pub returns : goal.returns
unfolding word
returns c =
    let a = c.args in
    let place = ap (λ (n : ℕ). number_at 4 a.s.now (n + name_size + 4 * a.i)) c.trailer_at.ensures in
    (c.u32_at.ensures.0 ∙ place, c.u32_at.ensures.1)
