-- The items of a bag by the place where they begin; and of a bag that does not end inside an item each item has its whole signature.
-- Assumes nothing.
use mathlib.Core.Path.{◌≡◌, refl, sym, ap, ◌∙◌}
use mathlib.Core.Bool.{true, false, cond, true≢false}
use mathlib.Core.List.{List, [], ◌∷◌}
use Prim.Native.Nat.{ℕ, zero, suc, ◌+◌, ◌-◌, ◌≤◌, ◌<◌}
use native.Mathlib.Omega.{arith}
use borrow.Author.Tests.{lt-ltb, ltb-true}
use lib.Dec.{ltb}
use lib.ListN.{length, drop, length-drop}
use lib.Seq.{length-take-le}
use Rattle.refusal.proofs.Laws.{cond-true}
use Rattle.assembly.specs.Items.{Item, first_size, item_size, first_item, items_after, items_of, whole_after, whole}

-- each item's signature has S bytes
pub data Long (S : ℕ) : List Item → Type 0 where
  no_item : Long S []
  an_item : {i : Item} {is : List Item} → length i.signature ≡ S → Long S is → Long S (i ∷ is)

module _ (w S : ℕ) where
  -- ---- from the place on where the next item begins

  items-skip : (k : ℕ) (item_bytes : List ℕ) → items_after w S k item_bytes ≡ items_after w S 0 (drop k item_bytes)
  unfolding items_after
  items-skip zero [] = refl
  items-skip zero (b ∷ bs) = refl
  items-skip (suc k) [] = refl
  items-skip (suc k) (b ∷ bs) = items-skip k bs

  whole-skip : (k : ℕ) (item_bytes : List ℕ) → k ≤ length item_bytes → whole_after w S k item_bytes ≡ whole_after w S 0 (drop k item_bytes)
  unfolding whole_after
  whole-skip zero [] h = refl
  whole-skip zero (b ∷ bs) h = refl
  whole-skip (suc k) [] h = absurd (omega (arith, h))
  whole-skip (suc k) (b ∷ bs) h = whole-skip k bs (omega (arith, h))

  -- ---- the next item

  item-some : (item_bytes : List ℕ) → item_size w S item_bytes ≡ suc (item_size w S item_bytes - 1)
  unfolding item_size
  item-some item_bytes = omega arith

  -- what follows the first byte, and what follows the first item
  after-item : (b : ℕ) (bs : List ℕ) → drop (item_size w S (b ∷ bs) - 1) bs ≡ drop (item_size w S (b ∷ bs)) (b ∷ bs)
  after-item b bs = sym (ap (λ k. drop k (b ∷ bs)) (item-some (b ∷ bs)))

  pub items-next : (item_bytes : List ℕ) → 0 < length item_bytes → items_of w S item_bytes ≡ first_item w S item_bytes ∷ items_of w S (drop (item_size w S item_bytes) item_bytes)
  unfolding items_of items_after
  items-next [] h = absurd (omega arith)
  items-next (b ∷ bs) h =
      ap (λ is. first_item w S (b ∷ bs) ∷ is)
      (items-skip (item_size w S (b ∷ bs) - 1) bs ∙ ap (items_after w S 0) (after-item b bs))

  pub whole-next : (item_bytes : List ℕ) → 0 < length item_bytes → 0 < first_size w item_bytes → item_size w S item_bytes ≤ length item_bytes
      → whole w S item_bytes ≡ whole w S (drop (item_size w S item_bytes) item_bytes)
  unfolding whole whole_after
  whole-next [] h kind inside = absurd (omega arith)
  whole-next (b ∷ bs) h kind inside =
      let room : item_size w S (b ∷ bs) - 1 ≤ length bs = omega (arith, inside) in
      ap (λ t. cond t (whole_after w S (item_size w S (b ∷ bs) - 1) bs) false) (lt-ltb 0 _ kind)
      ∙ whole-skip (item_size w S (b ∷ bs) - 1) bs room ∙ ap (whole_after w S 0) (after-item b bs)

  -- ---- a bag that does not end inside an item

  whole_room : (k : ℕ) (item_bytes : List ℕ) → whole_after w S k item_bytes ≡ true → k ≤ length item_bytes
  unfolding whole_after
  whole_room zero item_bytes e = omega arith
  whole_room (suc k) [] e = absurd (true≢false (sym e))
  whole_room (suc k) (b ∷ bs) e = omega (arith, whole_room k bs e)

  pub items-long : (k : ℕ) (item_bytes : List ℕ) → whole_after w S k item_bytes ≡ true → Long S (items_after w S k item_bytes)
  unfolding whole_after items_after first_item item_size
  items-long zero [] e = no_item
  items-long (suc k) [] e = no_item
  items-long (suc k) (b ∷ bs) e = items-long k bs e
  items-long zero (b ∷ bs) e =
      let end = 2 + first_size w (b ∷ bs) in
      let both = cond-true (ltb 0 (first_size w (b ∷ bs))) (whole_after w S (end + S - 1) bs) e in
      let room = whole_room (end + S - 1) bs both.1 in
      let after : S ≤ length (drop end (b ∷ bs)) = rw length-drop (omega (arith, room)) in
      an_item (length-take-le S (drop end (b ∷ bs)) after) (items-long (end + S - 1) bs both.1)

  -- its first item has a kind, and lies inside
  pub whole-first : (item_bytes : List ℕ) → 0 < length item_bytes → whole w S item_bytes ≡ true → (0 < first_size w item_bytes) × (item_size w S item_bytes ≤ length item_bytes)
  unfolding whole whole_after
  whole-first [] h e = absurd (omega arith)
  whole-first (b ∷ bs) h e =
      let both = cond-true (ltb 0 (first_size w (b ∷ bs))) (whole_after w S (item_size w S (b ∷ bs) - 1) bs) e in
      (ltb-true 0 _ both.0, omega (arith, whole_room (item_size w S (b ∷ bs) - 1) bs both.1, item-some (b ∷ bs)))
