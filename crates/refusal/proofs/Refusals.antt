-- The number of a refusal is not 0, so an answer with number 0 is no refusal.
-- Assumes nothing.
use mathlib.Core.Path.{◌≡◌, refl}
use Prim.Native.Nat.{◌<◌}
use native.Mathlib.Omega.{arith}
use Rattle.std.specs.Prelude.{Result, Ok, Err}
use Rattle.refusal.specs.declared.Refusal.{Refusal}
use Rattle.refusal.specs.declared.Refusal.TheVariants.{ShortReport, RosterSize, KeyType, DuplicateKey, Size, Version, Cluster, Counts, Layout, Signers, TermOrder, TermCount, Leader, CommitIndex, Signature, LongMessage, LengthCount, LengthSum, Item, NoLeader, ShortOutput}
use Rattle.refusal.specs.Refusals.{number, number_of}

pub above-zero : (e : Refusal) → 0 < number e
above-zero ShortReport = omega arith
above-zero RosterSize = omega arith
above-zero KeyType = omega arith
above-zero DuplicateKey = omega arith
above-zero Size = omega arith
above-zero Version = omega arith
above-zero Cluster = omega arith
above-zero Counts = omega arith
above-zero Layout = omega arith
above-zero Signers = omega arith
above-zero TermOrder = omega arith
above-zero TermCount = omega arith
above-zero Leader = omega arith
above-zero CommitIndex = omega arith
above-zero Signature = omega arith
above-zero LongMessage = omega arith
above-zero LengthCount = omega arith
above-zero LengthSum = omega arith
above-zero Item = omega arith
above-zero NoLeader = omega arith
above-zero ShortOutput = omega arith

pub number-nonzero : (e : Refusal) → number e ≡ 0 → ⊥
number-nonzero e h = omega (arith, above-zero e, h)

-- number 0: the answer holds a value
pub answered : {A : Type 0} (r : Result A Refusal) → number_of r ≡ 0 → (x : A) × (r ≡ Ok x)
answered (Ok x) h = (x, refl)
answered (Err e) h = absurd (number-nonzero e h)
