-- The place of a record's term is that of the record.
use mathlib.Core.Path.{ap, ◌∙◌}
use Prim.Native.Nat.{ℕ, ◌+◌, ◌*◌, ◌≤◌}
use native.Mathlib.Omega.{arith}
use lib.ListN.{length}
use Rattle.words.specs.BigEndian.{number_at}
use Rattle.log_chain.specs.Records.{record_size}
use Rattle.log_terms.proofs.term_after.Goals as goal

pub overflow_mul-record_size : goal.overflow_mul-record_size
overflow_mul-record_size c = rw c.record_size.ensures.0 (omega arith)

pub number_at-requires : goal.number_at-requires
unfolding record_size
number_at-requires c =
    let a = c.args in
    let size = c.record_size.ensures.0 in
    let room : c.record_size.result * a.i + a.width ≤ length a.s.now = rw size (omega (arith, c.requires.1)) in
    (room, c.requires.0)

pub returns : goal.returns
returns c =
    let a = c.args in
    c.number_at.ensures.0 ∙ ap (λ (z : ℕ). number_at a.width a.s.now (z * a.i)) c.record_size.ensures.0
