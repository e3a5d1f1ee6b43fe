-- One byte a turn, highest first: the value so far is the number of the bytes read.
use Rattle.std.proofs.Common.{arith, rules, add-one, ◌≡◌, ◌<◌, ◌+◌, ◌-◌, ◌∙◌, sym, take, drop, length, lit<, zero-add, refl}
use Rattle.words.proofs.Laws.{number_at-zero, number_at_more, number_at_part, number_step, number-room}
use Rattle.words.proofs.number_at.Goals as goal

pub loop-byte-init : goal.loop-byte-init
loop-byte-init c = (sym (number_at-zero _ _), lit< tt)

pub overflow_mul-value : goal.overflow_mul-value
overflow_mul-value c =
    let l = c.loop-byte in
    let a = c.args in
    let size : length (take (a.at + a.width - a.at) (drop a.at a.s.now)) ≡ a.width = search rules in
    omega (arith, number-room l.byte-index l.value (omega arith) l.invariant.1)

pub overflow_add-value : goal.overflow_add-value
overflow_add-value c =
    let l = c.loop-byte in
    let a = c.args in
    let size : length (take (a.at + a.width - a.at) (drop a.at a.s.now)) ≡ a.width = search rules in
    let byte : c.from.result < 256 = rw c.from.ensures (search rules) in
    omega (arith, number-room l.byte-index l.value (omega arith) l.invariant.1)

pub loop-byte-preserved : goal.loop-byte-preserved
loop-byte-preserved c =
    let l = c.loop-byte in
    let a = c.args in
    let items = take (a.at + a.width - a.at) (drop a.at a.s.now) in
    let byte : c.from.result < 256 = rw c.from.ensures (search rules) in
    rw (add-one, number_at_more l.byte-index items 0 (omega arith), zero-add, ← c.from.ensures, ← l.invariant.0)
    (refl, number_step l.byte-index l.value c.from.result l.invariant.1 byte)

pub returns : goal.returns
returns c =
    let l = c.loop-byte in
    let a = c.args in
    let size : length (take (a.at + a.width - a.at) (drop a.at a.s.now)) ≡ a.width = search rules in
    let end : l.byte-index ≡ a.width = omega arith in
    (rw end at l.invariant.0 ∙ number_at_part a.width a.s.now a.at, rw end at l.invariant.1)
