-- What a writer leaves of a buffer: what was written, read again; and a buffer whose rest was lent on to another writer.
-- Assumes nothing.
use mathlib.Core.Path.{◌≡◌, refl, sym, ap, ◌∙◌}
use mathlib.Core.List.{List, [], ◌++◌, append_assoc, append-nil}
use Prim.Native.Nat.{ℕ, ◌+◌, ◌-◌, ◌≤◌}
use native.Mathlib.Nat.{le_refl}
use native.Mathlib.Omega.{arith}
use borrow.Rule.Slice.PartMut.{put_mid}
use lib.ListN.{length, take, drop, length-append, length-drop, drop_of_length-le}
use lib.Seq.{take_at, drop_at, drop-drop, sets}
use Rattle.words.specs.Over.{over}
use Rattle.words.proofs.Laws.{part_end, sets_next}

-- nothing written
pub over_nothing : (e : List ℕ) → over [] e ≡ e
unfolding over
over_nothing e = refl

-- the bytes that end at a place, and what is kept from there on
pub over_at : (B e : List ℕ) (j : ℕ) → length B ≡ j → B ++ drop j e ≡ over B e
unfolding over
over_at B e j h = ap (λ (k : ℕ). B ++ drop k e) (sym h)

pub over-length : (B e : List ℕ) → length B ≤ length e → length (over B e) ≡ length e
unfolding over
over-length B e h = rw (length-append, length-drop) (omega arith)

-- what was written, read again
pub over-taken : (B e : List ℕ) (j : ℕ) → j ≡ length B → take j (over B e) ≡ B
unfolding over
over-taken B e j h = take_at B (drop (length B) e) j (sym h)

-- what stands in the buffer up to a place, and then what a writer leaves of the rest
pub over_more : (W e B : List ℕ) (a : ℕ) → length W ≡ a → take a (over W e) ++ over B (drop a (over W e)) ≡ over (W ++ B) e
unfolding over
over_more W e B a h =
    let rest : drop a (W ++ drop (length W) e) ≡ drop (length W) e = drop_at W _ a h in
    let first : take a (W ++ drop (length W) e) ≡ W = take_at W _ a h in
    let size : length W + length B ≡ length (W ++ B) = sym (length-append W B) in
    (λ i. first i ++ (B ++ drop (length B) (rest i)))
    ∙ ap (λ z. W ++ (B ++ z)) (drop-drop (length B) (length W) e ∙ ap (λ k. drop k e) size)
    ∙ sym (append_assoc W B (drop (length (W ++ B)) e))

-- the same, as it is told of a buffer whose rest, `&mut out[a..]`, was lent on
pub lent_on : (W e B : List ℕ) (a : ℕ) → length W ≡ a → length W ≤ length e
    → put_mid a (length (over W e) - a) (over W e) (over B (take (length (over W e) - a) (drop a (over W e)))) ≡ over (W ++ B) e
lent_on W e B a h room =
    let X = over W e in
    let whole : take (length X - a) (drop a X) ≡ drop a X = part_end X a in
    let short : length (drop a X) ≤ length X - a = rw length-drop (le_refl (length X - a)) in
    let none : drop (length X - a) (drop a X) ≡ [] = drop_of_length-le (drop a X) short in
    (λ i. take a X ++ (over B (whole i) ++ none i)) ∙ ap (λ z. take a X ++ z) (append-nil (over B (drop a X))) ∙ over_more W e B a h

-- stores from the place on where what was written ends
pub over_next : (W e vs : List ℕ) (k : ℕ) → length W ≡ k → k + length vs ≤ length e → sets (over W e) k vs ≡ over (W ++ vs) e
unfolding over
over_next W e vs k h room =
    let size : k + length vs ≡ length (W ++ vs) = sym (length-append W vs ∙ ap (λ (n : ℕ). n + length vs) h) in
    ap (λ (n : ℕ). sets (W ++ drop n e) k vs) h ∙ sets_next W e vs k (k + length vs) h refl room ∙ ap (λ (n : ℕ). W ++ vs ++ drop n e) size

-- stores from the start on
pub over_first : (e vs : List ℕ) → length vs ≤ length e → sets e 0 vs ≡ over vs e
unfolding over
over_first e vs h = over_next [] e vs 0 refl (omega arith)

-- ---- a buffer that begins with some bytes, and whose rest is lent on to a writer of others

-- W was written to the start of e, and up to `at`; there is room for B
pub record Begun (W B e out : List ℕ) (at : ℕ) : Type 0 where
  pub room : length (W ++ B) ≤ length e
  pub put : out ≡ over W e
  pub here : at ≡ length W

-- by stores
pub begun_first : {W B e out : List ℕ} {at : ℕ} → length (W ++ B) ≤ length e → out ≡ sets e 0 W → at ≡ length W → Begun W B e out at
begun_first {W = W} {B = B} {e = e} room put here =
    record { room = room; put = put ∙ over_first e W (omega (arith, length-append W B)); here = here }

module _ {W B e out : List ℕ} {at : ℕ} (b : Begun W B e out at) where
  both : length (W ++ B) ≡ length W + length B
  both = length-append W B

  pub begun-long : length out ≡ length e
  begun-long = ap length b.put ∙ over-length W e (omega (arith, both))

  pub rest-inside : at + length B ≤ length out
  rest-inside = omega (arith, both, begun-long)

  pub rest-room : length B ≤ length (take (length out - at) (drop at out))
  rest-room = rw (part_end out at, length-drop) (omega (arith, rest-inside))

  pub rest_put : {size : ℕ} {last : List ℕ} → size ≡ length B → last ≡ over B (take (length out - at) (drop at out))
      → (at + size ≡ length (W ++ B)) × (put_mid at (length out - at) out last ≡ over (W ++ B) e)
  rest_put s l = (omega (arith, both), rw (l, b.put) (lent_on W e B at (sym b.here) (omega (arith, both))))

-- ---- what was written, by the number that its writer gave

-- what a writer leaves of a buffer begins with what it wrote, read up to the number that it gave
module _ (B e out : List ℕ) (end : ℕ) (size : end ≡ length B) (bytes : out ≡ over B e) where
  pub written : take end out ≡ B
  written = rw bytes (over-taken B e end size)

  pub written-long : end ≡ length (take end out)
  written-long = size ∙ sym (ap length written)

  pub written-inside : end ≤ length out
  unfolding over
  written-inside = rw (bytes, size, length-append) (omega arith)
