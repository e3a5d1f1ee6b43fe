-- None of nine.
use mathlib.Core.Path.{refl}
use native.Mathlib.Nat.{le_refl}
use Rattle.district_pairs.specs.Entries.{parts_of}
use Rattle.district_pairs.proofs.no_entries.Goals as goal

pub returns : goal.returns
unfolding parts_of
returns c = record { parts = refl; room = record { places = refl; taken = le_refl 0 } }
