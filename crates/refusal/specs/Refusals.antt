-- The refusals and their numbers (document 01, "What stops an audit", and document 02, W1 and W3).
use Rattle.std.specs.Prelude.{ℕ, Result, Ok, Err}
use Rattle.refusal.specs.declared.Refusal.{Refusal}
use Rattle.refusal.specs.declared.Refusal.TheVariants.{ShortReport, RosterSize, KeyType, DuplicateKey, Size}
use Rattle.refusal.specs.declared.Refusal.TheVariants.{Version, Cluster, Counts, Layout, Signers, TermOrder}
use Rattle.refusal.specs.declared.Refusal.TheVariants.{TermCount, Leader, CommitIndex, Signature, LongMessage}
use Rattle.refusal.specs.declared.Refusal.TheVariants.{LengthCount, LengthSum, Item, NoLeader, ShortOutput}

abbrev pub number : Refusal → ℕ
number ShortReport = 1
number RosterSize = 2
number KeyType = 3
number DuplicateKey = 4
number Size = 5
number Version = 6
number Cluster = 7
number Counts = 8
number Layout = 9
number Signers = 10
number TermOrder = 11
number TermCount = 12
number Leader = 13
number CommitIndex = 14
number Signature = 15
number LongMessage = 16
number LengthCount = 17
number LengthSum = 18
number Item = 19
number NoLeader = 20
number ShortOutput = 21

-- of what a call gives: 0 where it refuses nothing
abbrev pub number_of : {A : Type 0} → Result A Refusal → ℕ
number_of (Ok x) = 0
number_of (Err e) = number e
