-- One byte a turn, highest first: the value so far is the number of the bytes read.
use mathlib.Core.Path.{◌≡◌}
use Prim.Native.Nat.{◌^◌, ◌<◌}
use Rattle.words.specs.BigEndian.{number_at}
use Rattle.words.proofs.number_at.Given as goal

abbrev pub invariant-loop-byte : goal.invariant-loop-byte
invariant-loop-byte l = (l.value ≡ number_at l.byte-index l.byte-items 0) × (l.value < 256 ^ l.byte-index)
