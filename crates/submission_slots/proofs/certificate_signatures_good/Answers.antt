-- One bit of the mask a turn: the signatures of the replicas that are left give what all of them give. A replica's key lies inside, since no bit
-- stands above replica n.
use mathlib.Core.Path.{◌≡◌}
use Prim.Native.Nat.{◌+◌, ◌-◌}
use native.Mathlib.Omega.{arith}
use Rattle.roster.specs.Roster.{replicas}
use Rattle.roster.proofs.Accepted.{key-inside}
use Rattle.submission_slots.proofs.Signed.{good_from-all, absent, wrong, right, none_left, replica-inside, half_inside, room-one, room-none, all_bits, next_bits, is_one, no_one}
use mathlib.Core.Path.{ap}
use mathlib.Core.Bool.{not}
use Rattle.submission_slots.proofs.certificate_signatures_good.Goals as goal
use Rattle.submission_slots.proofs.certificate_signatures_good.Goals.{then-signer+else-not-signature_genuine, else-signer}

pub loop-k-init : goal.loop-k-init
loop-k-init c =
    let a = c.args in
    let all : replicas a.roster.now - 0 ≡ replicas a.roster.now = omega arith in
    rw (all_bits a.mask, all) (c.requires.2, c.requires.3, good_from-all a.roster.now a.message.now a.size a.s.now a.mask a.at)

pub overflow_add-end : goal.overflow_add-end
overflow_add-end c =
    let a = c.args in
    let l = c.loop-k in
    let room = room-one a.size _ l.from _ (is_one a.mask l.k c.signer.ensures c.if-signer.true) l.invariant.1 in
    omega arith

pub slice_bounds-signature_genuine-end : goal.slice_bounds-signature_genuine-end
slice_bounds-signature_genuine-end c =
    let a = c.args in
    let l = c.loop-k in
    let room = room-one a.size _ l.from _ (is_one a.mask l.k c.signer.ensures c.if-signer.true) l.invariant.1 in
    omega arith

pub signature_genuine-requires : goal.signature_genuine-requires
signature_genuine-requires c =
    let a = c.args in
    let l = c.loop-k in
    let few = replica-inside (replicas a.roster.now) l.k _ l.invariant.0 (is_one a.mask l.k c.signer.ensures c.if-signer.true) in
    (omega arith, key-inside a.roster.now c.requires.0 (l.k + 1) few, c.requires.1)

pub returns-then-not-signature_genuine : goal.returns-then-not-signature_genuine
returns-then-not-signature_genuine c =
    let a = c.args in
    let l = c.loop-k in
    let count : l.from + a.size - l.from ≡ a.size = omega arith in
    wrong a.roster.now a.message.now a.size a.s.now l.k _ l.from l.invariant.2 (omega arith)
    (is_one a.mask l.k c.signer.ensures c.if-signer.true) (rw count at c.signature_genuine.ensures) (ap not c.if-not-signature_genuine.true)

pub loop-k-preserved : goal.loop-k-preserved
loop-k-preserved c =
    let a = c.args in
    let l = c.loop-k in
    let inside = half_inside _ l.k _ l.invariant.0 in
    elim c.if-signer.branch [
      | then-signer+else-not-signature_genuine w ↦
          let odd = is_one a.mask l.k c.signer.ensures w.if-signer.true in
          let count : l.from + a.size - l.from ≡ a.size = omega arith in
          rw (w.from-is, next_bits) (
            inside,
            room-one a.size _ l.from _ odd l.invariant.1,
            right a.roster.now a.message.now a.size a.s.now l.k _ l.from l.invariant.2 (omega arith) odd
                (rw count at w.signature_genuine.ensures) (ap not w.if-not-signature_genuine.false),
          )
      | else-signer w ↦
          let even = no_one a.mask l.k c.signer.ensures w.if-signer.false in
          rw (w.from-is, next_bits) (
            inside,
            room-none a.size _ l.from _ even l.invariant.1,
            absent a.roster.now a.message.now a.size a.s.now l.k _ l.from l.invariant.2 (omega arith) even,
          )
    ]

pub returns : goal.returns
returns c =
    let a = c.args in
    let l = c.loop-k in
    none_left a.roster.now a.message.now a.size a.s.now l.k _ l.from l.invariant.2 (omega arith)
