-- The four bytes of the length take the place of the block's last four.
use mathlib.Core.Path.{◌≡◌, ap, ◌∙◌}
use Prim.Native.Nat.{◌+◌}
use lib.ListN.{length}
use Rattle.words.specs.BigEndian.{be}
use Rattle.words.proofs.Laws.{length-be}
use Rattle.sha256.specs.Sha256.{parse}
use Rattle.sha256.proofs.Padding.{sets_end}
use borrow.Author.Rules.{rules}
use Rattle.sha256.proofs.sealed.Goals as goal

pub returns : goal.returns
returns c =
    let a = c.args in
    let long : length a.block ≡ 64 = search rules in
    let bytes = be 4 a.bits in
    let end : length a.block ≡ 60 + length bytes = rw length-be long in
    c.block_at.ensures ∙ ap (parse 16) (c.put_u32.ensures ∙ sets_end a.block bytes 60 end)
