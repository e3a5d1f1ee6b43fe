-- Parts one after the other: one more, how long they are, and a loop that lends the rest of its buffer on for each.
-- Assumes nothing.
use mathlib.Core.Path.{◌≡◌, refl, sym, ap, ◌∙◌}
use mathlib.Core.Bool.{true, false}
use mathlib.Core.List.{List, [], ◌∷◌, ◌++◌, append-nil, append_assoc, flat_map}
use mathlib.Core.Logic.{⊎_elim}
use Prim.Native.Nat.{ℕ, zero, suc, ◌+◌, ◌-◌, ◌*◌, ◌≤◌, ◌<◌}
use native.Mathlib.Nat.{mul-zero, mul-suc}
use native.Mathlib.Numerals.{add-one}
use native.Mathlib.Omega.{arith}
use borrow.Author.Tests.{ltb-true, ltb-false}
use borrow.Rule.Slice.PartMut.{put_mid}
use lib.Dec.{ltb}
use lib.ListN.{length, get_or, take, drop, length-append}
use Rattle.words.specs.Over.{over}
use Rattle.words.proofs.Over.{over-length, over_nothing, Begun, rest-inside, rest-room, rest_put}
use Rattle.refusal.proofs.Laws.{look}
use Rattle.assembly_writer.specs.Parts.{joined}

module _ (part : ℕ → List ℕ) where
  pub joined-next : (i : ℕ) → joined part (i + 1) ≡ joined part i ++ part i
  unfolding joined
  joined-next i = rw add-one refl

  -- fewer parts are no longer
  joined-inside : (i count : ℕ) → i < count → length (joined part i) + length (part i) ≤ length (joined part count)
  unfolding joined
  joined-inside i zero h = absurd (omega arith)
  joined-inside i (suc count) h =
      rw length-append
      (⊎_elim
      (λ (e : ltb i count ≡ true). omega (arith, joined-inside i count (ltb-true i count e)))
      (λ (e : ltb i count ≡ false). let same : i ≡ count = omega (arith, ltb-false i count e) in rw same (omega arith))
      (look (ltb i count)))

  -- parts of at most so many bytes
  pub joined-most : (most count : ℕ) → ((i : ℕ) → i < count → length (part i) ≤ most) → length (joined part count) ≤ most * count
  unfolding joined
  joined-most most zero h = omega arith
  joined-most most (suc count) h =
      rw (length-append, mul-suc) (omega (arith, joined-most most count (λ i less. h i (omega (arith, less))), h count (omega arith)))

  -- parts of so many bytes
  pub joined-long : (size : ℕ) → ((i : ℕ) → length (part i) ≡ size) → (count : ℕ) → length (joined part count) ≡ size * count
  unfolding joined
  joined-long size h zero = sym (mul-zero size)
  joined-long size h (suc count) = length-append (joined part count) (part count) ∙ rw (joined-long size h count, h count, mul-suc) refl

  -- the first part, and the others
  pub joined-first : (count : ℕ) → joined part (suc count) ≡ part 0 ++ joined (λ i. part (suc i)) count
  unfolding joined
  joined-first zero = sym (append-nil (part 0))
  joined-first (suc count) =
      ap (λ z. z ++ part (suc count)) (joined-first count) ∙ append_assoc (part 0) (joined (λ i. part (suc i)) count) (part (suc count))

  -- ---- a loop over the parts

  module _ (e : List ℕ) (count : ℕ) where
    -- i parts are written, and `at` is where they end
    abbrev pub PartsPut : ℕ → ℕ → List ℕ → Type 0
    PartsPut i at out =
        (i ≤ count) × (at ≤ length out) × (length out ≡ length e) × (at ≡ length (joined part i)) × (out ≡ over (joined part i) e)

    pub parts_none : PartsPut 0 0 e
    unfolding joined
    parts_none = (omega arith, omega arith, refl, refl, sym (over_nothing e))

    module _ (room : length (joined part count) ≤ length e) {i at : ℕ} {out : List ℕ} (put : PartsPut i at out) (more : i < count) where
      begun : Begun (joined part i) (part i) e out at
      begun =
          record {
            room = omega (arith, length-append (joined part i) (part i), joined-inside i count more);
            put = put.4;
            here = put.3;
          }

      pub part-inside : at + length (part i) ≤ length out
      part-inside = rest-inside begun

      pub part_room : length (part i) ≤ length (take (length out - at) (drop at out))
      part_room = rest-room begun

      -- the next part, by a writer to which the rest was lent on
      pub part_put : {size : ℕ} {last : List ℕ} → size ≡ length (part i)
          → last ≡ over (part i) (take (length out - at) (drop at out)) → PartsPut (i + 1) (at + size) (put_mid at (length out - at) out last)
      part_put {size} {last} s l =
          let next = rest_put begun s l in
          let bytes : put_mid at (length out - at) out last ≡ over (joined part (i + 1)) e = next.1 ∙ ap (λ z. over z e) (sym (joined-next i)) in
          let end : at + size ≡ length (joined part (i + 1)) = next.0 ∙ ap length (sym (joined-next i)) in
          let long : length (put_mid at (length out - at) out last) ≡ length e =
          ap length bytes ∙ over-length (joined part (i + 1)) e (rw (joined-next i) begun.room) in
          (omega arith, omega (arith, part-inside), long, end, bytes)

    pub parts_all : {i at : ℕ} {out : List ℕ} → PartsPut i at out → count ≤ i → (at ≡ length (joined part count)) × (out ≡ over (joined part count) e)
    parts_all {i} put h = let all : i ≡ count = omega arith in (put.3 ∙ ap (λ (n : ℕ). length (joined part n)) all, put.4 ∙ ap (λ (n : ℕ). over (joined part n) e) all)

-- ---- parts from a list

pub joined_same : (part other : ℕ → List ℕ) (count : ℕ) → ((i : ℕ) → i < count → part i ≡ other i) → joined part count ≡ joined other count
unfolding joined
joined_same part other zero h = refl
joined_same part other (suc count) h = rw (joined_same part other count (λ i less. h i (omega (arith, less))), h count (omega arith)) refl

pub joined_list : {A : Type 0} (f : A → List ℕ) (d : A) (xs : List A) → flat_map f xs ≡ joined (λ i. f (get_or xs i d)) (length xs)
unfolding flat_map joined
joined_list f d [] = refl
joined_list f d (x ∷ xs) = ap (λ z. f x ++ z) (joined_list f d xs) ∙ sym (joined-first (λ i. f (get_or (x ∷ xs) i d)) (length xs))
