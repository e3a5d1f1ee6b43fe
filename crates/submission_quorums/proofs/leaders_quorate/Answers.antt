-- One certificate a turn: those that are left give what all of them give, and end inside.
use mathlib.Core.Path.{◌≡◌, refl, sym, ◌∙◌}
use Prim.Native.Nat.{◌+◌, ◌-◌}
use native.Mathlib.Omega.{arith}
use Rattle.submission.proofs.Certificates.{certificates-from}
use Rattle.submission_quorums.proofs.Quorums.{never-refused, too_few, enough, all-enough}
use mathlib.Core.Path.{ap}
use mathlib.Core.Bool.{not}
use Rattle.submission_quorums.proofs.leaders_quorate.Goals as goal

pub loop-init : goal.loop-init
loop-init c =
    let all : c.args.count - 0 ≡ c.args.count = omega arith in rw all (c.requires.6, refl)

pub read-requires : goal.read-requires
read-requires c =
    let a = c.args in
    let l = c.loop in
    let p = c.requires in
    (omega (arith, certificates-from a.width a.size a.s.now (a.count - l.counter) l.at), p.2, p.3, p.4, p.5)

pub returns-in_default : goal.returns-in_default
returns-in_default c =
    let a = c.args in
    let l = c.loop in
    never-refused a.width a.size a.s.now a.n (a.count - l.counter) l.at a.end l.invariant.1 (omega arith) l.invariant.0
    (sym c.read.ensures.0 ∙ c.in_default.is)

pub mask_quorate-requires : goal.mask_quorate-requires
mask_quorate-requires c =
    let p = c.requires in
    (p.0, p.1)

pub returns-then-not-mask_quorate : goal.returns-then-not-mask_quorate
returns-then-not-mask_quorate c =
    let a = c.args in
    let l = c.loop in
    too_few a.width a.size a.s.now a.n (a.count - l.counter) l.at a.end l.invariant.1 (omega arith) l.invariant.0
    (sym c.read.ensures.0 ∙ c.in-Some.is)
    c.mask_quorate.ensures
    (ap not c.if-not-mask_quorate.true)

pub loop-preserved : goal.loop-preserved
loop-preserved c =
    let a = c.args in
    let l = c.loop in
    let fewer : a.count - l.counter - 1 ≡ a.count - (l.counter + 1) = omega arith in
    rw fewer at
    (enough a.width a.size a.s.now a.n (a.count - l.counter) l.at a.end l.invariant.1 (omega arith) l.invariant.0
    (sym c.read.ensures.0 ∙ c.in-Some.is)
    c.mask_quorate.ensures
    (ap not c.if-not-mask_quorate.false))

pub returns : goal.returns
returns c =
    let a = c.args in
    let l = c.loop in
    all-enough a.width a.size a.s.now a.n (a.count - l.counter) l.at a.end l.invariant.1 (omega arith)
