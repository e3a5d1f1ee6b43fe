-- One record of each a turn: what is left of the logs differs first where all of them do.
-- What the last test compared is said in both of its arms: a need cannot be handed what another has named.
use mathlib.Core.Path.{◌≡◌, sym, ◌∙◌}
use mathlib.Core.List.{List}
use Prim.Native.Nat.{ℕ, ◌+◌, ◌*◌, ◌≤◌, ◌<◌}
use native.Mathlib.Nat.{le_trans}
use native.Mathlib.Numerals.{add-one}
use native.Mathlib.Omega.{arith}
use lib.ListN.{length, take, drop}
use Rattle.words.specs.BigEndian.{same}
use Rattle.words.proofs.Bytes.{Bytes}
use Rattle.words.proofs.Laws.{bytes_each}
use Rattle.log_chain.specs.Records.{record_size}
use Rattle.log_chain.specs.Difference.{same_record}
use Rattle.log_terms.proofs.Records.{record_at, record_next, record_inside}
use Rattle.log_difference.proofs.Steps.{from_first, from-end, from_next, from-here, record_test}
use Rattle.log_difference.proofs.difference.Goals as goal

-- where the next record ends, by the size that the code has
ends : (w i count size most : ℕ) → size ≡ record_size w → i < count → record_size w * count ≤ most → size * i + size ≤ most
ends w i count size most e h m = rw e (le_trans (record_inside w i count h) m)

-- whether the records are the same, by what the code has compared
module _ (w i first second size : ℕ) (a b : List ℕ) (ba : Bytes a) (bb : Bytes b) (e : size ≡ record_size w) (p : i < first) (q : i < second)
    (long-a : record_size w * first ≤ length a) (long-b : record_size w * second ≤ length b) where
  compared : same_record (record_at w a i) (record_at w b i) ≡ same (take size (drop (size * i) a)) (take size (drop (size * i) b))
  compared =
      rw e (record_test w i a b ba bb (rw record_next (le_trans (record_inside w i first p) long-a)) (rw record_next (le_trans (record_inside w i second q) long-b)))

pub record_size-size-requires : goal.record_size-size-requires
record_size-size-requires c = c.requires.0

pub loop-i-init : goal.loop-i-init
loop-i-init c =
    let a = c.args in
    from_first a.width a.first a.second a.a.now a.b.now

pub overflow_mul-size : goal.overflow_mul-size
overflow_mul-size c =
    let a = c.args in
    omega (arith, ends a.width c.loop-i.i a.first _ _ c.record_size-size.ensures.0 (omega arith) c.requires.1)

pub same_part-requires : goal.same_part-requires
same_part-requires c =
    let a = c.args in
    let i = c.loop-i.i in
    let size = c.record_size-size.ensures.0 in
    (ends a.width i a.first _ _ size (omega arith) c.requires.1, ends a.width i a.second _ _ size (omega arith) c.requires.2)

pub returns-then-not-same_part-clause-index : goal.returns-then-not-same_part-clause-index
returns-then-not-same_part-clause-index c =
    let a = c.args in
    let l = c.loop-i in
    let test = compared a.width l.i a.first a.second c.record_size-size.result a.a.now a.b.now
    (bytes_each a.a.now (λ j. (c.type_inv.a j).fits))
    (bytes_each a.b.now (λ j. (c.type_inv.b j).fits)) c.record_size-size.ensures.0 (omega arith)
    (omega arith) c.requires.1 c.requires.2 in
    rw add-one
    (sym (from-here a.width a.first a.second a.a.now a.b.now l.i (omega arith) (omega arith)
    (test ∙ sym c.same_part.ensures ∙ c.if-not-same_part.true))
    ∙ l.invariant)

pub loop-i-preserved : goal.loop-i-preserved
loop-i-preserved c =
    let a = c.args in
    let l = c.loop-i in
    let test = compared a.width l.i a.first a.second c.record_size-size.result a.a.now a.b.now
    (bytes_each a.a.now (λ j. (c.type_inv.a j).fits))
    (bytes_each a.b.now (λ j. (c.type_inv.b j).fits)) c.record_size-size.ensures.0 (omega arith)
    (omega arith) c.requires.1 c.requires.2 in
    rw add-one
    (sym (from_next a.width a.first a.second a.a.now a.b.now l.i (omega arith) (omega arith)
    (test ∙ sym c.same_part.ensures ∙ c.if-not-same_part.false))
    ∙ l.invariant)

pub returns-clause-index : goal.returns-clause-index
returns-clause-index c =
    let a = c.args in
    let l = c.loop-i in
    sym (from-end a.width a.first a.second a.a.now a.b.now l.i (omega arith)) ∙ l.invariant
