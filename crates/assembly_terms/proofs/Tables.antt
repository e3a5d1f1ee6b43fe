-- Lists of one length joined, by their place; and a table that begins with some bytes: its parts, and the table after more bytes or others.
-- Assumes nothing.
use mathlib.Core.Path.{◌≡◌, refl, sym, ap, ◌∙◌}
use mathlib.Core.List.{List, [], ◌∷◌, ◌++◌, append_assoc, flat_map}
use Prim.Native.Nat.{ℕ, zero, suc, ◌+◌, ◌-◌, ◌*◌, ◌≤◌, ◌<◌}
use native.Mathlib.Nat.{mul-zero, mul-suc, mul-le-mul_left, add_comm}
use native.Mathlib.Omega.{arith}
use borrow.Rule.Slice.PartMut.{put_mid}
use lib.ListN.{length, get_or, take, drop, length-append, length-take, length-drop, take-append-drop}
use lib.Seq.{sets, sets-eq, take_at, drop_at, take-append-le, drop-append-le, drop-append-add, drop-drop}
use Rattle.words.specs.Over.{over}
use Rattle.words.proofs.Over.{over-length, over-taken, over_next, over_first, Begun, begun_first, rest_put}

-- ---- lists of one length, joined

module _ {A : Type 0} (f : A → List ℕ) (n : ℕ) (each : (x : A) → length (f x) ≡ n) where
  pub rows-length : (xs : List A) → length (flat_map f xs) ≡ n * length xs
  unfolding flat_map
  rows-length [] = sym (mul-zero n)
  rows-length (x ∷ xs) = length-append (f x) (flat_map f xs) ∙ rw (each x, rows-length xs, mul-suc) (add_comm n (n * length xs))

  row_at : (xs : List A) (m : ℕ) (d : A) → m < length xs → take n (drop (n * m) (flat_map f xs)) ≡ f (get_or xs m d)
  unfolding flat_map
  row_at [] m d h = absurd (omega arith)
  row_at (x ∷ xs) zero d h = rw mul-zero (take_at (f x) (flat_map f xs) n (each x))
  row_at (x ∷ xs) (suc m) d h =
      let place : n * suc m ≡ length (f x) + n * m = rw (each x, mul-suc) (add_comm (n * m) n) in
      ap (λ (k : ℕ). take n (drop k (f x ++ flat_map f xs))) place ∙ ap (take n) (drop-append-add (f x) (flat_map f xs) (n * m))
      ∙ row_at xs m d (omega arith)

-- ---- lists put one behind the other

pub three_put : (e a b d : List ℕ) (i j : ℕ) → length a ≡ i → i + length b ≡ j → j + length d ≤ length e
    → sets (sets (sets e 0 a) i b) j d ≡ over (a ++ b ++ d) e
three_put e a b d i j first second room =
    let two : length (a ++ b) ≡ j = length-append a b ∙ rw first second in
    rw (
      over_first e a (omega arith),
      over_next a e b i first (omega arith),
      over_next (a ++ b) e d j two room,
    )

-- the second put into the rest that was lent on
pub lent_second : (e out last a B : List ℕ) (i : ℕ) → length a ≡ i → i + length B ≤ length e → out ≡ sets e 0 a
    → last ≡ over B (take (length out - i) (drop i out)) → put_mid i (length out - i) out last ≡ over (a ++ B) e
lent_second e out last a B i first room o l =
    let begun : Begun a B e out i = begun_first (rw (length-append, first) room) o (sym first) in
    (rest_put begun refl l).1

-- ---- a table that begins with some bytes

module _ (b t : List ℕ) (h : take (length b) t ≡ b) where
  begins : b ++ drop (length b) t ≡ t
  begins = ap (λ (l : List ℕ). l ++ drop (length b) t) (sym h) ∙ take-append-drop (length b) t

  pub begins-room : length b ≤ length t
  begins-room = omega (arith, rw length-take at (ap length h))

  -- a part of the bytes
  begins-part : (i n : ℕ) → i + n ≤ length b → take n (drop i t) ≡ take n (drop i b)
  begins-part i n room =
      ap (λ (l : List ℕ). take n (drop i l)) (sym begins) ∙ ap (take n) (drop-append-le i b _ (omega arith))
      ∙ take-append-le n (drop i b) _ (rw length-drop (omega arith))

  -- with what is written behind them, in the rest that was lent on
  module _ (B last : List ℕ) (at : ℕ) (size : length b ≡ at) (room : at + length B ≤ length t)
      (put : last ≡ over B (take (length t - at) (drop at t))) where
    whole_room : length (b ++ B) ≤ length t
    whole_room = rw (length-append, size) room

    after-lent : put_mid at (length t - at) t last ≡ over (b ++ B) t
    unfolding over
    after-lent =
        let begun : Begun b B t t at = record { room = whole_room; put = sym begins; here = sym size } in
        (rest_put begun refl put).1

    pub begins_more : take (length (b ++ B)) (put_mid at (length t - at) t last) ≡ b ++ B
    begins_more = ap (take (length (b ++ B))) after-lent ∙ over-taken (b ++ B) t (length (b ++ B)) refl

    pub lent_length : length (put_mid at (length t - at) t last) ≡ length t
    lent_length = ap length after-lent ∙ over-length (b ++ B) t whole_room

-- other bytes of the same number in their place
pub begins-set : (front old rest new t : List ℕ) (at : ℕ) → length front ≡ at → length new ≡ length old
    → take (length ((front ++ old) ++ rest)) t ≡ (front ++ old) ++ rest
    → take (length ((front ++ new) ++ rest)) (sets t at new) ≡ (front ++ new) ++ rest
begins-set front old rest new t at size same h =
    let b = (front ++ old) ++ rest in
    let tail = drop (length b) t in
    let whole : (front ++ (old ++ (rest ++ tail))) ≡ t = sym (append_assoc front old _) ∙ sym (append_assoc (front ++ old) rest tail) ∙ begins b t h in
    let room : at + length new ≤ length t = omega (arith, begins-room b t h, length-append (front ++ old) rest, length-append front old) in
    let first : take at t ≡ front = ap (take at) (sym whole) ∙ take_at front _ at size in
    let behind : drop (at + length new) t ≡ rest ++ tail =
    sym (drop-drop (length new) at t) ∙ ap (λ (l : List ℕ). drop (length new) (drop at l)) (sym whole)
    ∙ ap (drop (length new)) (drop_at front _ at size) ∙ drop_at old _ (length new) (sym same) in
    let stored : sets t at new ≡ ((front ++ new) ++ rest) ++ tail =
    sets-eq new t at room ∙ (λ i. first i ++ new ++ behind i) ∙ sym (append_assoc (front ++ new) rest tail) in
    ap (take (length ((front ++ new) ++ rest))) stored ∙ take_at ((front ++ new) ++ rest) tail _ refl

-- ---- a table of a head and lists of one length: the head, and the list at a place

module _ {A : Type 0} (head : List ℕ) (f : A → List ℕ) (n : ℕ) (each : (x : A) → length (f x) ≡ n) (xs : List A) (t : List ℕ)
    (h : take (length (head ++ flat_map f xs)) t ≡ head ++ flat_map f xs) where
  pub table-head : (k : ℕ) → length head ≡ k → take k t ≡ head
  table-head k size =
      begins-part (head ++ flat_map f xs) t h 0 k (omega (arith, length-append head (flat_map f xs))) ∙ take_at head (flat_map f xs) k size

  pub table-row : (k m : ℕ) (d : A) → length head ≡ k → m < length xs → take n (drop (k + n * m) t) ≡ f (get_or xs m d)
  table-row k m d size inside =
      let rows = flat_map f xs in
      let before : n * m + n ≤ n * length xs = rw (← mul-suc) (mul-le-mul_left n inside) in
      let room : k + n * m + n ≤ length (head ++ rows) = omega (arith, length-append head rows, rows-length f n each xs) in
      begins-part (head ++ rows) t h (k + n * m) n room ∙ ap (λ (j : ℕ). take n (drop (j + n * m) (head ++ rows))) (sym size)
      ∙ ap (take n) (drop-append-add head rows (n * m)) ∙ row_at f n each xs m d inside
