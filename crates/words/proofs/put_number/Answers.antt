-- The last `width` of the number's eight bytes are those of the definition.
use mathlib.Core.Path.{ap, ◌∙◌}
use mathlib.Core.List.{List}
use Prim.Native.Nat.{ℕ, ◌-◌}
use lib.ListN.{take, drop}
use lib.Seq.{sets}
use Rattle.words.proofs.Laws.{last_bytes}
use Rattle.words.proofs.put_number.Goals as goal

pub returns : goal.returns
returns c =
    let a = c.args in
    let last : List ℕ → List ℕ = λ b. take (8 - (8 - a.width)) (drop (8 - a.width) b) in
    c.put_bytes.ensures
    ∙ ap (λ (b : List ℕ). sets a.out.now a.at (last b)) c.to_be_bytes.ensures
    ∙ ap (sets a.out.now a.at) (last_bytes a.width a.x c.requires.1)
