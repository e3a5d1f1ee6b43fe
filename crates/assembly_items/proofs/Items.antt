-- The items of a bag by the places where they begin: a walk that goes from the end of one to the next has read all of them where the bag ends,
-- and in a bag that does not end inside an item every item is read.
-- Assumes nothing.
use mathlib.Core.Path.{◌≡◌, refl, sym, ap, ◌∙◌}
use mathlib.Core.Bool.{true, false}
use mathlib.Core.List.{List, [], ◌∷◌}
use mathlib.Core.Logic.{⊎_elim}
use Prim.Native.Nat.{ℕ, ◌+◌, ◌-◌, ◌≤◌, ◌<◌}
use native.Mathlib.Omega.{arith}
use borrow.Author.Tests.{ne_eqb, ltb-true, ltb-false, leb-true, leb-false, lt-ltb, le-ltb, le-leb, lt-leb}
use lib.Dec.{ltb, leb}
use lib.ListN.{length, get_or, take, drop, length-drop, drop_of_length-le, get_or-eq_default}
use lib.Seq.{drop-drop, get_or-drop}
use Rattle.std.specs.Prelude.{Option, Some, None, MatchOption}
use Rattle.words.specs.BigEndian.{number_at}
use Rattle.log_chain.specs.declared.Kind.{Kind}
use Rattle.log_chain.specs.declared.Kind.TheVariants.{Stamp, Receipt, Vote}
use Rattle.log_chain.specs.Kinds.{byte_of}
use Rattle.refusal.specs.Checks.{all}
use Rattle.refusal.proofs.Laws.{look}
use Rattle.assembly.specs.Items.{Item, statement_size, first_size, item_size, first_item, items_after, items_of, whole_after, whole}
use Rattle.assembly.proofs.Whole.{whole-first, items-next as next-items, whole-next as next-whole}
use Rattle.assembly_items.specs.declared.ItemPlace.{ItemPlace}
use Rattle.assembly_items.specs.Reader.{item_at, item_reading, item_of}

not-zero : (n : ℕ) → (n ≡ 0 → ⊥) → 0 < n
not-zero n h = omega (arith, h)

-- a part of what follows a place
part_from : (item_bytes : List ℕ) (at m start end : ℕ) {n k : ℕ} → n ≡ k → start ≡ at + m → end ≡ start + k
    → take n (drop m (drop at item_bytes)) ≡ take (end - start) (drop start item_bytes)
part_from item_bytes at m start end {n} {k} size e f =
    let long : n ≡ end - start = omega (arith, size, f) in
    ap (λ (l : List ℕ). take n l) (drop-drop m at item_bytes ∙ ap (λ (j : ℕ). drop j item_bytes) (sym e)) ∙ ap (λ (j : ℕ). take j (drop start item_bytes)) long

-- ---- the item at a place

pub record Standing (S : ℕ) (item_bytes : List ℕ) (at : ℕ) (i : ItemPlace) : Type 0 where
  pub statement : i.statement ≡ at + 2
  pub signature : i.statement < i.signature
  pub next : i.next ≡ i.signature + S
  pub inside : i.next ≤ length item_bytes

module _ (w S : ℕ) (item_bytes : List ℕ) (at : ℕ) where
  -- the bytes of its statement
  abbrev size_at : ℕ
  size_at = statement_size w (get_or item_bytes (at + 2) 0)

  abbrev place_at : ItemPlace
  place_at = item_at S item_bytes at size_at

  read : 0 < size_at → at + 2 + size_at + S ≤ length item_bytes → Some place_at ≡ item_reading w S item_bytes at
  unfolding item_reading all
  read kind room = rw (lt-ltb _ _ kind, le-leb _ _ room)

  -- from what the code has read and computed
  pub reads : {replica size : ℕ} → replica ≡ number_at 2 item_bytes at → size ≡ size_at → (size ≡ 0 → ⊥) → at + 2 + size + S ≤ length item_bytes
      → Some (record { replica = replica; statement = at + 2; signature = at + 2 + size; next = at + 2 + size + S }) ≡ item_reading w S item_bytes at
  reads number size kind room = rw (number, size) (read (rw size at (not-zero _ kind)) (rw size at room))

  pub no_kind : size_at ≡ 0 → None ≡ item_reading w S item_bytes at
  unfolding item_reading all
  no_kind e = rw (le-ltb 0 size_at (omega (arith, e)))

  -- there is no kind byte
  pub no_byte : length item_bytes ≤ at + 2 → None ≡ item_reading w S item_bytes at
  unfolding statement_size
  no_byte h = no_kind (rw (get_or-eq_default item_bytes 0 h))

  pub cut_off : length item_bytes < at + 2 + size_at + S → None ≡ item_reading w S item_bytes at
  unfolding item_reading all
  cut_off h = ⊎_elim (λ (e : ltb 0 size_at ≡ true). rw (e, lt-leb _ _ h)) (λ (e : ltb 0 size_at ≡ false). rw e) (look (ltb 0 size_at))

  -- where the byte is no kind's
  pub unknown : ((k : Kind) → byte_of k ≡ get_or item_bytes (at + 2) 0 → ⊥) → None ≡ item_reading w S item_bytes at
  unfolding statement_size
  unknown other =
      let byte = get_or item_bytes (at + 2) 0 in
      no_kind (rw (ne_eqb byte 1 (λ e. other Stamp (sym e)), ne_eqb byte 2 (λ e. other Receipt (sym e)), ne_eqb byte 3 (λ e. other Vote (sym e))) refl)

  -- where it is, from what the code gives for the bytes of that kind's statement
  pub placed : (r : Option ItemPlace) (k : Kind) (size : ℕ) → byte_of k ≡ get_or item_bytes (at + 2) 0 → size ≡ statement_size w (byte_of k) → 0 < size
      → MatchOption r (length item_bytes < at + 2 + size + S) (λ i. (i ≡ item_at S item_bytes at size) × (at + 2 + size + S ≤ length item_bytes))
      → r ≡ item_reading w S item_bytes at
  placed None k size byte e more h = cut_off (rw (e ∙ ap (statement_size w) byte) at h)
  placed (Some i) k size byte e more h = ap Some h.0 ∙ reads refl (e ∙ ap (statement_size w) byte) (λ z. omega (arith, z, more)) h.1

  read-says : {i : ItemPlace} → item_reading w S item_bytes at ≡ Some i → (i ≡ place_at) × (0 < size_at) × (at + 2 + size_at + S ≤ length item_bytes)
  read-says e =
      ⊎_elim
      (λ (h : ltb 0 size_at ≡ true).
      ⊎_elim
      (λ (g : leb (at + 2 + size_at + S) (length item_bytes) ≡ true).
      let r = read (ltb-true _ _ h) (leb-true _ _ g) in (cc, ltb-true _ _ h, leb-true _ _ g))
      (λ (g : leb (at + 2 + size_at + S) (length item_bytes) ≡ false).
      let r = cut_off (leb-false _ _ g) in let z : ◌≡◌ {A = ℕ} 0 1 = cc in absurd (omega arith))
      (look (leb (at + 2 + size_at + S) (length item_bytes))))
      (λ (h : ltb 0 size_at ≡ false).
      let none : size_at ≡ 0 = omega (arith, ltb-false 0 size_at h) in
      let r = no_kind none in let z : ◌≡◌ {A = ℕ} 0 1 = cc in absurd (omega arith))
      (look (ltb 0 size_at))

  -- where its parts stand
  pub stands : {i : ItemPlace} → item_reading w S item_bytes at ≡ Some i → Standing S item_bytes at i
  stands e =
      let says = read-says e in
      rw says.0 (record { statement = refl; signature = omega (arith, says.1); next = refl; inside = says.2 })

  -- ---- in a bag

  size-here : first_size w (drop at item_bytes) ≡ size_at
  unfolding first_size
  size-here = rw get_or-drop

  end-here : at + item_size w S (drop at item_bytes) ≡ at + 2 + size_at + S
  unfolding item_size
  end-here = rw size-here (omega arith)

  rest-here : drop (item_size w S (drop at item_bytes)) (drop at item_bytes) ≡ drop place_at.next item_bytes
  rest-here = drop-drop (item_size w S (drop at item_bytes)) at item_bytes ∙ ap (λ (n : ℕ). drop n item_bytes) end-here

  item-here : first_item w S (drop at item_bytes) ≡ item_of item_bytes place_at
  unfolding first_item item_of number_at
  item-here =
      λ k.
      record {
        replica = number_at 2 item_bytes at;
        statement = part_from item_bytes at 2 (at + 2) (at + 2 + size_at) size-here refl refl k;
        signature = part_from item_bytes at (2 + first_size w (drop at item_bytes)) (at + 2 + size_at) (at + 2 + size_at + S) refl (rw size-here (omega arith)) refl k;
      }

  module _ (more : at < length item_bytes) where
    nonempty : 0 < length (drop at item_bytes)
    nonempty = rw length-drop (omega arith)

    whole-read : whole w S (drop at item_bytes) ≡ true → Some place_at ≡ item_reading w S item_bytes at
    whole-read e =
        let says = whole-first w S (drop at item_bytes) nonempty e in
        read (rw size-here at says.0) (omega (arith, says.1, end-here, length-drop at item_bytes))

    -- what is whole is read
    pub refused-broken : item_reading w S item_bytes at ≡ None → whole w S (drop at item_bytes) ≡ false
    refused-broken e =
        ⊎_elim
        (λ (h : whole w S (drop at item_bytes) ≡ true).
        let r = whole-read h in let z : ◌≡◌ {A = ℕ} 0 1 = cc in absurd (omega arith))
        (λ h. h)
        (look (whole w S (drop at item_bytes)))

    -- the item, and what comes after it
    module _ {i : ItemPlace} (e : item_reading w S item_bytes at ≡ Some i) where
      pub items-next : items_of w S (drop at item_bytes) ≡ item_of item_bytes i ∷ items_of w S (drop i.next item_bytes)
      items-next =
          let says = read-says e in
          rw says.0
          (next-items w S (drop at item_bytes) nonempty
          ∙ ap (λ (j : Item). j ∷ items_of w S (drop (item_size w S (drop at item_bytes)) (drop at item_bytes))) item-here
          ∙ ap (λ (l : List ℕ). item_of item_bytes place_at ∷ items_of w S l) rest-here)

      pub whole-next : whole w S (drop at item_bytes) ≡ whole w S (drop i.next item_bytes)
      whole-next =
          let says = read-says e in
          let room : item_size w S (drop at item_bytes) ≤ length (drop at item_bytes) = rw length-drop (omega (arith, says.2, end-here)) in
          rw says.0
          (next-whole w S (drop at item_bytes) nonempty (rw size-here says.1) room ∙ ap (λ (l : List ℕ). whole w S l) rest-here)

  -- nothing is left
  module _ (end : length item_bytes ≤ at) where
    pub items-end : items_of w S (drop at item_bytes) ≡ []
    unfolding items_of items_after
    items-end = rw (drop_of_length-le item_bytes end)

    pub whole-end : whole w S (drop at item_bytes) ≡ true
    unfolding whole whole_after
    whole-end = rw (drop_of_length-le item_bytes end)
