-- One record a turn: p is the pointer of record k, and the table has the checkpoints up to it.
use mathlib.Core.Path.{◌≡◌, ap, ◌∙◌}
use mathlib.Core.List.{[]}
use Prim.Native.Nat.{suc, ◌+◌, ◌≤◌}
use native.Mathlib.Numerals.{add-one}
use native.Mathlib.Omega.{arith}
use lib.ListN.{length}
use lib.Seq.{length-sets}
use Rattle.sha256.specs.Sha256.{bytes_of}
use Rattle.lm_hash.proofs.Values.{length-bytes}
use Rattle.log_chain.specs.Log.{with_terms}
use Rattle.log_chain.specs.Records.{records_of}
use Rattle.log_chain.proofs.Records.{fewer_inside}
use Rattle.log_checkpoints.proofs.Filled.{table_room, filled_first, filled-same, filled_more}
use Rattle.log_checkpoints.proofs.put_checkpoints.Goals as goal
use Rattle.log_checkpoints.proofs.put_checkpoints.Goals.{then-k-eq0, else-k-eq0}

pub put_value-requires : goal.put_value-requires
put_value-requires c = omega (arith, table_room c.args.records 0 (omega arith) c.requires.3)

pub loop-k-init : goal.loop-k-init
unfolding records_of
loop-k-init c =
    let a = c.args in
    let put = c.put_value in
    let zero = c.pointers_zero-zero in
    let first = (zero.ensures (with_terms a.width [])).last in
    let room : 32 ≤ length a.table.now = omega (arith, table_room a.records 0 (omega arith) c.requires.3) in (
      rw (put.ensures, length-sets a.table.now 0 (bytes_of zero.result.last)) c.requires.3,
      first,
      rw put.ensures (filled_first a.width a.s.now a.table.now _ (length-bytes zero.result.last) room first),
    )

pub step-p-requires : goal.step-p-requires
step-p-requires c =
    let a = c.args in
    let l = c.loop-k in
    (c.requires.0, omega arith, rw add-one (fewer_inside a.width (suc l.k) a.records (omega arith) c.requires.2), l.invariant.1)

pub put_value-requires-then-k-eq0 : goal.put_value-requires-then-k-eq0
put_value-requires-then-k-eq0 c =
    table_room c.args.records (c.loop-k.k + 1) (omega arith) c.loop-k.invariant.0

pub loop-k-preserved : goal.loop-k-preserved
loop-k-preserved c =
    let a = c.args in
    let l = c.loop-k in (
      omega (arith, c.if-k-eq0.auto.table),
      c.step-p.ensures,
      elim c.if-k-eq0.branch [
        | then-k-eq0 w ↦
            let put = w.put_value-then-k-eq0 in
            rw (w.table-is, put.ensures)
            (filled_more a.width l.k a.s.now l.table l.invariant.2 _ (length-bytes c.step-p.result)
            (table_room a.records (l.k + 1) (omega arith) l.invariant.0) w.if-k-eq0.true c.step-p.ensures)
        | else-k-eq0 w ↦ rw w.table-is (filled-same a.width l.k a.s.now l.table l.invariant.2 w.if-k-eq0.false)
      ],
    )

pub shape_of-table : goal.shape_of-table
shape_of-table c =
    let l = c.loop-k in
    let zero = c.pointers_zero-zero in
    let a = c.args in
    l.auto.table ∙ ap length c.put_value.ensures ∙ length-sets a.table.now 0 (bytes_of zero.result.last)

pub returns : goal.returns
returns c =
    let l = c.loop-k in
    let all : l.k ≡ c.args.records = omega arith in
    rw all at l.invariant.2
