-- One record a turn: p is the pointer of record k, and the table has the checkpoints up to it.
use mathlib.Core.Path.{◌≡◌}
use mathlib.Core.List.{[]}
use Prim.Native.Nat.{◌≤◌}
use lib.ListN.{length}
use Rattle.sha256.specs.Sha256.{bytes_of}
use Rattle.log_chain.specs.Log.{with_terms, pointer}
use Rattle.log_chain.specs.Records.{records_of}
use Rattle.log_checkpoints.specs.Checkpoints.{Checkpoints, table_size}
use Rattle.log_checkpoints.proofs.put_checkpoints.Given as goal

abbrev pub invariant-loop-k : goal.invariant-loop-k
invariant-loop-k l =
    (table_size l.records ≤ length l.table)
    × (bytes_of l.p ≡ pointer (with_terms l.width []) (records_of l.width l.k l.s)) × Checkpoints l.width l.k l.s l.table
