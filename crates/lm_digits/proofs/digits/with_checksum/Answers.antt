-- The checksum is the sum over the digits of Q, which stand first in Q || Cksm(Q) too: the second sum goes on from there.
use Prim.Native.Nat.{ℕ, ◌*◌, ◌%◌, ◌^◌}
use mathlib.Core.Path.{◌≡◌, refl, sym, ap, ◌∙◌}
use mathlib.Core.List.{List, ◌++◌}
use native.Mathlib.Omega.{arith}
use borrow.Author.Rules.{rules}
use lib.ListN.{length}
use Rattle.words.specs.BigEndian.{be}
use Rattle.lm_digits.specs.Parameters.{message_digits}
use Rattle.lm_digits.specs.Listed.{Listed}
use Rattle.lm_digits.specs.declared.Parameters.{Parameters}
use Rattle.lm_digits.specs.Digits.{sum, checksum, with_checksum, steps}
use Rattle.lm_digits.proofs.Widths.{digit-inside, message-fits, message-few}
use Rattle.lm_digits.proofs.Figures.{known-width, known-few, known-follows, known-message, checksum-fits, shift-lt, chain-digit}
use Rattle.lm_digits.proofs.Steps.{sum_first}
use Rattle.lm_digits.proofs.digits.with_checksum.Goals as goal

-- Q || Cksm(Q) is what was joined: the shift loses nothing
joined : (o : Parameters) (q : List ℕ) (p : Listed o) (count total : ℕ) (bytes : List ℕ) → count ≡ message_digits o.bits
    → total ≡ sum o.bits q count → bytes ≡ q ++ be 2 (total * 2 ^ o.shift % 4294967296) → bytes ≡ with_checksum o q
unfolding with_checksum checksum
joined o q p count total bytes counted summed is =
    let whole = known-width p.number p.found in
    let all : total ≡ sum o.bits q (message_digits o.bits) = summed ∙ ap (sum o.bits q) counted in
    let shifted : checksum o q % 4294967296 ≡ checksum o q = omega (arith, checksum-fits o whole (known-follows p.number p.found) q) in
    is
    ∙ ap (λ (n : ℕ). q ++ be 2 (n * 2 ^ o.shift % 4294967296)) all
    ∙ ap (λ (n : ℕ). q ++ be 2 n) shifted

pub message_digits-count-requires : goal.message_digits-count-requires
message_digits-count-requires c = known-width c.requires.number c.requires.found

pub digit_sum-total-requires : goal.digit_sum-total-requires
unfolding sum
digit_sum-total-requires c =
    let w = c.args.o.bits in
    let whole = known-width c.requires.number c.requires.found in
    let count = c.message_digits-count.ensures in
    let inside : length c.args.q ≡ 32 = search rules in
    (whole, omega arith, rw count (omega (arith, message-few w)), λ i h. rw inside (digit-inside w whole _ 32 (rw count (message-fits w whole)) i h), refl)

pub overflow_shl-total : goal.overflow_shl-total
overflow_shl-total c =
    shift-lt c.args.o (known-width c.requires.number c.requires.found) (known-follows c.requires.number c.requires.found)

pub digit_sum-requires : goal.digit_sum-requires
unfolding with_checksum
digit_sum-requires c =
    let p = c.requires in
    let o = c.args.o in
    let q = c.args.q in
    let w = o.bits in
    let whole = known-width p.number p.found in
    let count = c.message_digits-count.ensures in
    let total = c.digit_sum-total.ensures ∙ ap (sum w q) count in
    let made = joined o q p c.message_digits-count.result c.digit_sum-total.result c.join_checksum-bytes.result count c.digit_sum-total.ensures c.join_checksum-bytes.ensures in
    let long : length q ≡ 32 = search rules in
    let size : length c.join_checksum-bytes.result ≡ 34 = search rules in
    let fits = known-message p.number p.found in (
      whole,
      omega (arith, count, fits.1),
      omega (arith, count, fits.1, known-few p.number p.found),
      λ i h. rw size (chain-digit o whole (known-follows p.number p.found) i (omega (arith, h, count, fits.1))),
      total ∙ sym (sum_first w whole q (be 2 (checksum o q)) (message_digits w) (omega (arith, fits.0, long)))
          ∙ ap (λ (s : List ℕ). sum w s (message_digits w)) (sym made)
          ∙ ap (sum w c.join_checksum-bytes.result) (sym count),
    )

pub returns : goal.returns
unfolding steps
returns c =
    let o = c.args.o in
    let made = joined o c.args.q c.requires c.message_digits-count.result c.digit_sum-total.result c.join_checksum-bytes.result c.message_digits-count.ensures c.digit_sum-total.ensures c.join_checksum-bytes.ensures in
    record { bytes = made; steps = c.digit_sum.ensures ∙ ap (λ (s : List ℕ). sum o.bits s o.chains) made }
