-- A replica a turn: before replica k the lines of the replicas below it are put.
use mathlib.Core.Path.{◌≡◌}
use native.Mathlib.Omega.{arith}
use Rattle.text_report.proofs.Replicas.{no-replicas, next-replica}
use Rattle.text_report.proofs.put_replicas.Goals as goal

pub loop-k-init : goal.loop-k-init
loop-k-init c = no-replicas _

pub put_named-next-requires : goal.put_named-next-requires
put_named-next-requires c =
    let done = c.loop-k.invariant in
    (c.requires.0, c.loop-k.auto.k, omega arith, omega (arith, done.after, done.few))

pub loop-k-preserved : goal.loop-k-preserved
loop-k-preserved c =
    let l = c.loop-k in
    next-replica c.args.report.now l.k l.auto.k l.invariant c.put_named-next.ensures

pub returns : goal.returns
returns c =
    let l = c.loop-k in
    let end : l.k ≡ 10 = omega arith in
    rw end at l.invariant
