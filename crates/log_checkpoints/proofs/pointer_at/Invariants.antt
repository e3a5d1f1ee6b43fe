-- One record a turn, from the checkpoint on: p is the pointer of record k.
use mathlib.Core.Path.{◌≡◌}
use mathlib.Core.List.{[]}
use Rattle.sha256.specs.Sha256.{bytes_of}
use Rattle.log_chain.specs.Log.{with_terms, pointer}
use Rattle.log_chain.specs.Records.{records_of}
use Rattle.log_checkpoints.proofs.pointer_at.Given as goal

abbrev pub invariant-loop-k : goal.invariant-loop-k
invariant-loop-k l = bytes_of l.p ≡ pointer (with_terms l.width []) (records_of l.width l.k l.s)
