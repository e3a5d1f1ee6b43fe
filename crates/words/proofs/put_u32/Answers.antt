-- The bytes of the number are those of the definition.
use mathlib.Core.Path.{◌≡◌, ◌∙◌}
use Rattle.words.specs.BigEndian.{be}
use Rattle.words.proofs.Laws.{sets_part, four_bytes}
use Rattle.words.proofs.put_u32.Goals as goal

pub returns : goal.returns
unfolding be
returns c =
    let a = c.args in
    let bytes : c.copy_from_slice.new.self ≡ be 4 a.x = c.copy_from_slice.ensures.after ∙ c.to_be_bytes.ensures ∙ four_bytes a.x in
    rw bytes (sets_part a.out.now (be 4 a.x) a.at c.requires)
