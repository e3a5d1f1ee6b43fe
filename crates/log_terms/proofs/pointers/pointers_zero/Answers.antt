-- The bytes of eight zero words.
use mathlib.Core.Path.{refl}
use mathlib.Core.List.{flat_map}
use Rattle.words.specs.BigEndian.{be}
use Rattle.sha256.specs.Sha256.{bytes_of, words_of}
use Rattle.log_chain.specs.Log.{pointer, pointer_from}
use Rattle.log_terms.proofs.pointers.pointers_zero.Goals as goal

pub returns : goal.returns
unfolding bytes_of words_of flat_map be pointer pointer_from
returns c form = record { committed = refl; last = refl }
