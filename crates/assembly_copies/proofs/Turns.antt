-- An item is offered to one statement after the other: those before have what the offer makes of their cells, and the others are as they were.
-- Assumes nothing.
use mathlib.Core.Path.{◌≡◌, refl, sym, ap, ◌∙◌}
use mathlib.Core.Bool.{Bool, true, false, cond}
use mathlib.Core.List.{List, [], ◌∷◌}
use mathlib.Core.Logic.{⊎_elim}
use Prim.Native.Nat.{ℕ, suc, ◌+◌, ◌-◌, ◌*◌, ◌≤◌, ◌<◌}
use native.Mathlib.Omega.{arith}
use borrow.Author.Tests.{eqb-true, eqb-false, eq-eqb, ne_eqb, ltb-true, ltb-false}
use lib.Dec.{eqb, ltb}
use lib.ListN.{length, get_or, set, length-set}
use lib.Seq.{get_or-set_same, get_or-set_other}
use Rattle.refusal.specs.Checks.{all}
use Rattle.refusal.proofs.Laws.{look}
use Rattle.roster.specs.Roster.{replicas}
use Rattle.assembly.specs.Items.{fits}
use Rattle.assembly_items.specs.declared.ItemPlace.{ItemPlace}
use Rattle.assembly_items.specs.Reader.{item_of}
use Rattle.assembly_copies.specs.declared.Sought.{Sought}
use Rattle.roster.specs.Sizes.{replicas_most}
use Rattle.assembly_copies.specs.Rows.{Placed}
use Rattle.assembly_copies.specs.Sought.{statement_at}
use Rattle.assembly_copies.specs.Offers.{Lies, Alike, is_copy, cell_after, Taken}
use Rattle.assembly_copies.proofs.Fitting.{own_of, other-replica, end-decides}

-- ---- a cell after an offer

module _ (cell place : ℕ) (fit : Bool) where
  had : (cell ≡ 0 → ⊥) → cond (all (eqb cell 0 ∷ fit ∷ [])) place cell ≡ cell
  unfolding all
  had h = rw (ne_eqb cell 0 h)

  unfit : fit ≡ false → cond (all (eqb cell 0 ∷ fit ∷ [])) place cell ≡ cell
  unfolding all
  unfit e = rw e (go (eqb cell 0))
    where
      go : (b : Bool) → cond (cond b false false) place cell ≡ cell
      go true = refl
      go false = refl

  fit-taken : cell ≡ 0 → fit ≡ true → cond (all (eqb cell 0 ∷ fit ∷ [])) place cell ≡ place
  unfolding all
  fit-taken z e = rw (eq-eqb cell 0 z, e)

-- ---- the statements before

module _ (roster item_bytes wanted : List ℕ) (q : Sought) (i : ItemPlace) (before : List ℕ) where
  pub record Turned (rows : List ℕ) (m : ℕ) : Type 0 where
    pub low : m ≤ q.count
    pub room : length rows ≡ length before
    pub placed : Placed q.size item_bytes (replicas_most * q.count) rows
    pub done : (l k : ℕ) → l < m → k < replicas roster → get_or rows (replicas_most * l + k) 0 ≡ cell_after roster item_bytes wanted q i before l k
    pub kept : (j : ℕ) → replicas_most * m ≤ j → get_or rows j 0 ≡ get_or before j 0

  pub turned_none : Placed q.size item_bytes (replicas_most * q.count) before → Turned before 0
  turned_none placed =
      record { low = omega arith; room = refl; placed = placed; done = λ l k h. absurd (omega (arith, h)); kept = λ j h. refl }

  pub turned-all : (rows : List ℕ) (m : ℕ) → Turned rows m → q.count ≤ m → Taken roster item_bytes wanted q i before rows
  unfolding Taken
  turned-all rows m t all l k hl hk = t.done l k (omega (arith, all, hl)) hk

  module _ (few : replicas roster ≤ replicas_most) (lies : Lies q.size item_bytes i) (alike : Alike roster item_bytes wanted q i) (m : ℕ) (more : m < q.count)
      (rows : List ℕ) (t : Turned rows m) where
    abbrev pub cell_of : ℕ
    cell_of = replicas_most * m + (i.replica - 1)

    -- one more, from what stands at the one cell that may change
    turn : (after : List ℕ) → length after ≡ length rows → Placed q.size item_bytes (replicas_most * q.count) after
        → get_or after cell_of 0 ≡ cell_after roster item_bytes wanted q i before m (i.replica - 1)
        → ((j : ℕ) → (j ≡ cell_of → ⊥) → get_or after j 0 ≡ get_or rows j 0)
        → Turned after (m + 1)
    unfolding cell_after item_of
    turn after room placed here others =
        let number = alike.numbered in
        let known = alike.known in
        record {
          low = omega (arith, more);
          room = room ∙ t.room;
          placed = placed;
          done = λ l k hl hk.
              ⊎_elim
              (λ (e : eqb (replicas_most * l + k) cell_of ≡ true).
              let same-cell = eqb-true (replicas_most * l + k) cell_of e in
              let same_row : l ≡ m = omega (arith, same-cell, few, known, number, hk) in
              let same-column : k ≡ i.replica - 1 = omega (arith, same-cell, same_row) in
              rw (same_row, same-column) here)
              (λ (e : eqb (replicas_most * l + k) cell_of ≡ false).
              let other = eqb-false (replicas_most * l + k) cell_of e in
              others (replicas_most * l + k) other
              ∙ ⊎_elim
              (λ (e : ltb l m ≡ true). t.done l k (ltb-true l m e) hk)
              (λ (e : ltb l m ≡ false).
              let same_row : l ≡ m = omega (arith, ltb-false l m e, hl) in
              t.kept (replicas_most * l + k) (omega (arith, same_row))
              ∙ sym
              (unfit (get_or before (replicas_most * l + k) 0) i.signature (fits roster (suc k) (statement_at q wanted l) (item_of item_bytes i))
              (other-replica roster (suc k) (statement_at q wanted l) (item_of item_bytes i) (λ (h : i.replica ≡ suc k). other (omega (arith, same_row, h))))))
              (look (ltb l m)))
              (look (eqb (replicas_most * l + k) cell_of));
          kept = λ j h. others j (λ e. omega (arith, h, e, few, known, number)) ∙ t.kept j (omega (arith, h));
        }

    here-before : get_or rows cell_of 0 ≡ get_or before cell_of 0
    here-before = t.kept cell_of (omega arith)

    -- a copy is there already
    pub turn-had : (get_or rows cell_of 0 ≡ 0 → ⊥) → Turned rows (m + 1)
    unfolding cell_after
    turn-had h =
        turn rows refl t.placed
        (here-before
        ∙ sym
        (had (get_or before cell_of 0) i.signature (fits roster (suc (i.replica - 1)) (statement_at q wanted m) (item_of item_bytes i)) (λ z. h (here-before ∙ z))))
        (λ j h. refl)

    module _ (inside : q.head + q.tail * q.count ≤ length wanted) where
      fit-here : fits roster (suc (i.replica - 1)) (statement_at q wanted m) (item_of item_bytes i) ≡ is_copy roster item_bytes i (own_of q wanted m)
      fit-here =
          let number : suc (i.replica - 1) ≡ i.replica = omega (arith, alike.numbered) in
          ap (λ (k : ℕ). fits roster k (statement_at q wanted m) (item_of item_bytes i)) number ∙ end-decides roster item_bytes wanted q i lies inside alike m more

      -- the item is no copy
      pub turn-unfit : is_copy roster item_bytes i (own_of q wanted m) ≡ false → Turned rows (m + 1)
      unfolding cell_after
      turn-unfit e =
          turn rows refl t.placed
          (here-before
          ∙ sym
          (unfit (get_or before cell_of 0) i.signature (fits roster (suc (i.replica - 1)) (statement_at q wanted m) (item_of item_bytes i)) (fit-here ∙ e)))
          (λ j h. refl)

      -- it is one, and there was none
      module _ (cells : replicas_most * q.count ≤ length before) where
        cell-inside : cell_of < length rows
        cell-inside = omega (arith, cells, t.room, more, alike.numbered, alike.known, few)

        placed-set : Placed q.size item_bytes (replicas_most * q.count) (set rows cell_of i.signature)
        unfolding Placed
        placed-set j h =
            ⊎_elim
            (λ (e : eqb j cell_of ≡ true).
            rw (eqb-true j cell_of e, get_or-set_same rows cell_of i.signature 0 cell-inside) (omega (arith, lies.ends, lies.within)))
            (λ (e : eqb j cell_of ≡ false). rw (get_or-set_other rows cell_of j i.signature 0 (eqb-false j cell_of e)) (t.placed j h))
            (look (eqb j cell_of))

        pub turn-taken : get_or rows cell_of 0 ≡ 0 → is_copy roster item_bytes i (own_of q wanted m) ≡ true → Turned (set rows cell_of i.signature) (m + 1)
        unfolding cell_after
        turn-taken z e =
            turn (set rows cell_of i.signature) (length-set rows cell_of i.signature) placed-set
            (get_or-set_same rows cell_of i.signature 0 cell-inside
            ∙ sym
            (fit-taken (get_or before cell_of 0) i.signature (fits roster (suc (i.replica - 1)) (statement_at q wanted m) (item_of item_bytes i))
            (sym here-before ∙ z) (fit-here ∙ e)))
            (λ j h. get_or-set_other rows cell_of j i.signature 0 h)
