-- The four words as they stand.
use mathlib.Core.Path.{refl}
use native.Mathlib.Nat.{add-zero}
use Rattle.sha256_lane_words.specs.Lane.{lane, place, word_in}
use Rattle.sha256_lane_words.proofs.Each.{each}
use Rattle.sha256_lane_words.proofs.at.Goals as goal

pub returns : goal.returns
unfolding lane place word_in
returns c = each _ (rw add-zero) refl refl refl
