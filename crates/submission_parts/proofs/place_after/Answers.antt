-- One certificate a turn: those that are left end where all of them do.
use mathlib.Core.Path.{◌≡◌, sym, ◌∙◌}
use Prim.Native.Nat.{◌+◌, ◌-◌}
use native.Mathlib.Omega.{arith}
use Rattle.submission_parts.proofs.Readings.{placed, passes, next, arrives}
use Rattle.submission_parts.proofs.place_after.Goals as goal

pub loop-init : goal.loop-init
loop-init c =
    let all : c.args.count - 0 ≡ c.args.count = omega arith in (omega arith, rw all)

pub returns-in_err-next : goal.returns-in_err-next
returns-in_err-next c =
    let a = c.args in
    let l = c.loop in
    rw c.from_residual.ensures
    (placed a.width a.size a.s.now a.count a.from a.end
    (passes a.width a.size a.s.now a.count a.from a.end (a.count - l.counter) l.at l.invariant.1 (omega arith)
    (sym c.read.ensures.0 ∙ c.in_err-next.was)))

pub loop-preserved : goal.loop-preserved
loop-preserved c =
    let a = c.args in
    let l = c.loop in
    let fewer : a.count - l.counter - 1 ≡ a.count - (l.counter + 1) = omega arith in
    rw fewer at
    (next a.width a.size a.s.now a.count a.from a.end (a.count - l.counter) l.at l.invariant.1 (omega arith)
    (sym c.read.ensures.0 ∙ c.in_ok-next.was))

pub returns : goal.returns
returns c =
    let a = c.args in
    let l = c.loop in
    placed a.width a.size a.s.now a.count a.from a.end
    (arrives a.width a.size a.s.now a.count a.from a.end (a.count - l.counter) l.at l.invariant.1 (omega arith) l.invariant.0)
