-- The byte is the definition's.
use native.Mathlib.Nat.{div-one}
use Rattle.words.specs.BigEndian.{be}
use Rattle.words.proofs.put_u8.Goals as goal

pub returns : goal.returns
unfolding be
returns c = simp div-one
