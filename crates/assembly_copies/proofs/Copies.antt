-- What is found so far, or else what the rest of the items has, is what all of them have: a walk that offers each item keeps this, and where
-- nothing is left it has found the copies.
-- Assumes nothing.
use mathlib.Core.Path.{◌≡◌, refl, sym, ap, ◌∙◌}
use mathlib.Core.Bool.{Bool, true, false, cond}
use mathlib.Core.List.{List, [], ◌∷◌, map}
use mathlib.Core.Option.{Option, some, none, or_else}
use Prim.Native.Nat.{ℕ, zero, suc, ◌+◌, ◌-◌, ◌*◌, ◌≤◌, ◌<◌}
use native.Mathlib.Omega.{arith}
use borrow.Author.Tests.{ne_eqb}
use lib.Dec.{eqb, eqb-suc-zero}
use lib.ListN.{length, get_or, take, drop, length-drop}
use lib.Seq.{get_or-drop}
use Rattle.refusal.specs.Checks.{all}
use Rattle.roster.specs.Roster.{replicas}
use Rattle.assembly.specs.Items.{Item, fits, copy_of, copies_from, copies, items_of}
use Rattle.assembly_items.specs.declared.ItemPlace.{ItemPlace}
use Rattle.assembly_items.specs.Reader.{item_of}
use Rattle.assembly_copies.specs.declared.Sought.{Sought}
use Rattle.roster.specs.Sizes.{replicas_most}
use Rattle.assembly_copies.specs.Rows.{copy_at, copies_at}
use Rattle.assembly_copies.specs.Sought.{statement_at, CopiesFound}
use Rattle.assembly_copies.specs.Offers.{Lies, Unlike, cell_after, Taken}

-- ---- one or else another

or-none : (x : Option (List ℕ)) → or_else x none ≡ x
unfolding or_else
or-none none = refl
or-none (some a) = refl

or_assoc : (x y z : Option (List ℕ)) → or_else (or_else x y) z ≡ or_else x (or_else y z)
unfolding or_else
or_assoc none y z = refl
or_assoc (some a) y z = refl

-- what one item has
one_of : List ℕ → ℕ → List ℕ → Item → Option (List ℕ)
one_of roster k statement i = cond (fits roster k statement i) (some i.signature) none

copy_first : (roster : List ℕ) (k : ℕ) (statement : List ℕ) (i : Item) (is : List Item)
    → copy_of roster k statement (i ∷ is) ≡ or_else (one_of roster k statement i) (copy_of roster k statement is)
unfolding copy_of one_of or_else
copy_first roster k statement i is = go (fits roster k statement i)
  where
    go : (b : Bool) → cond b (some i.signature) (copy_of roster k statement is) ≡ or_else (cond b (some i.signature) none) (copy_of roster k statement is)
    go true = refl
    go false = refl

-- ---- one cell

-- a place that is not 0 has a signature there
placed_copy : (S : ℕ) (item_bytes : List ℕ) (place : ℕ) → 0 < place → copy_at S item_bytes place ≡ some (take S (drop place item_bytes))
unfolding copy_at
placed_copy S item_bytes place h = rw (ne_eqb place 0 (λ e. omega (arith, h, e)))

-- what an offer makes of a cell: what was found, or else the item
offered : (S : ℕ) (item_bytes : List ℕ) (cell place : ℕ) (fit : Bool) (signature : List ℕ) → copy_at S item_bytes place ≡ some signature
    → copy_at S item_bytes (cond (all (eqb cell 0 ∷ fit ∷ [])) place cell) ≡ or_else (copy_at S item_bytes cell) (cond fit (some signature) none)
unfolding copy_at all or_else
offered S item_bytes zero place true signature e = e
offered S item_bytes zero place false signature e = refl
offered S item_bytes (suc cell) place fit signature e = rw (eqb-suc-zero cell, eqb-suc-zero cell)

module _ (roster item_bytes wanted : List ℕ) (q : Sought) (i : ItemPlace) (lies : Lies q.size item_bytes i) where
  signature-there : copy_at q.size item_bytes i.signature ≡ some (item_of item_bytes i).signature
  unfolding item_of
  signature-there =
      let long : q.size ≡ i.next - i.signature = omega (arith, lies.ends) in
      placed_copy q.size item_bytes i.signature (omega (arith, lies.begins))
      ∙ ap (λ (n : ℕ). some (take n (drop i.signature item_bytes))) long

  cell-copy : (rows : List ℕ) (m k : ℕ)
      → copy_at q.size item_bytes (cell_after roster item_bytes wanted q i rows m k)
      ≡ or_else (copy_at q.size item_bytes (get_or rows (replicas_most * m + k) 0)) (one_of roster (suc k) (statement_at q wanted m) (item_of item_bytes i))
  unfolding cell_after one_of
  cell-copy rows m k =
      offered q.size item_bytes (get_or rows (replicas_most * m + k) 0) i.signature (fits roster (suc k) (statement_at q wanted m) (item_of item_bytes i))
      (item_of item_bytes i).signature signature-there

-- ---- so many replicas

module _ (roster item_bytes : List ℕ) (S : ℕ) (statement : List ℕ) (is : List Item) where
  copies-from : (count j : ℕ) (places : List ℕ) → count ≤ length places
      → ((k : ℕ) → k < count → copy_at S item_bytes (get_or places k 0) ≡ copy_of roster (j + k) statement is)
      → map (copy_at S item_bytes) (take count places) ≡ copies_from roster count j statement is
  unfolding copies_from
  copies-from zero j places room each = refl
  copies-from (suc count) j [] room each = absurd (omega (arith, room))
  copies-from (suc count) j (p ∷ ps) room each =
      let here : j + 0 ≡ j = omega arith in
      let next : (k : ℕ) → j + suc k ≡ suc j + k = λ k. omega arith in
      let head = each 0 (omega arith) ∙ ap (λ (n : ℕ). copy_of roster n statement is) here in
      let tail = copies-from count (suc j) ps (omega (arith, room))
      (λ k h. each (suc k) (omega (arith, h)) ∙ ap (λ (n : ℕ). copy_of roster n statement is) (next k)) in
      λ k. head k ∷ tail k

-- ---- all cells

module _ (roster item_bytes wanted : List ℕ) (q : Sought) where
  -- what is found so far, or else what the rest has, is what all items have
  unfoldable pub Found : List ℕ → List Item → List Item → Type 0
  Found rows rest items =
      (m k : ℕ) → m < q.count → k < replicas roster
      → or_else (copy_at q.size item_bytes (get_or rows (replicas_most * m + k) 0)) (copy_of roster (suc k) (statement_at q wanted m) rest)
      ≡ copy_of roster (suc k) (statement_at q wanted m) items

  pub found_none : (rows : List ℕ) (items : List Item) → ((j : ℕ) → j < replicas_most * q.count → get_or rows j 0 ≡ 0) → replicas roster ≤ replicas_most
      → Found rows items items
  unfolding Found copy_at or_else
  found_none rows items empty few m k hm hk = rw (empty (replicas_most * m + k) (omega (arith, few)))

  module _ (i : ItemPlace) (before : List ℕ) (rest items : List Item) (found : Found before (item_of item_bytes i ∷ rest) items) where
    pub found-taken : (after : List ℕ) → Lies q.size item_bytes i → Taken roster item_bytes wanted q i before after → Found after rest items
    unfolding Found Taken
    found-taken after lies taken m k hm hk =
        let statement = statement_at q wanted m in
        ap (λ (x : Option (List ℕ)). or_else x (copy_of roster (suc k) statement rest))
        (ap (λ (p : ℕ). copy_at q.size item_bytes p) (taken m k hm hk) ∙ cell-copy roster item_bytes wanted q i lies before m k)
        ∙ or_assoc (copy_at q.size item_bytes (get_or before (replicas_most * m + k) 0)) (one_of roster (suc k) statement (item_of item_bytes i)) (copy_of roster (suc k) statement rest)
        ∙ ap (λ (x : Option (List ℕ)). or_else (copy_at q.size item_bytes (get_or before (replicas_most * m + k) 0)) x)
        (sym (copy_first roster (suc k) statement (item_of item_bytes i) rest))
        ∙ found m k hm hk

    pub found-unlike : Unlike roster item_bytes wanted q i → Found before rest items
    unfolding Found Unlike copy_of
    found-unlike unlike m k hm hk = rw (unlike m k hm hk) at (found m k hm hk)

  pub found_all : (rows : List ℕ) → replicas roster ≤ replicas_most → replicas_most * q.count ≤ length rows
      → Found rows [] (items_of q.width q.size item_bytes) → CopiesFound roster item_bytes wanted q rows
  unfolding Found CopiesFound copies_at copies copy_of
  found_all rows few room found m hm =
      let more : replicas roster ≤ length (drop (replicas_most * m) rows) = rw length-drop (omega (arith, few, room, hm)) in
      copies-from roster item_bytes q.size (statement_at q wanted m) (items_of q.width q.size item_bytes) (replicas roster) 1 (drop (replicas_most * m) rows) more
      (λ k h.
      let next : suc k ≡ 1 + k = omega arith in
      ap (λ (p : ℕ). copy_at q.size item_bytes p) (get_or-drop (replicas_most * m) rows k 0)
      ∙ sym (or-none (copy_at q.size item_bytes (get_or rows (replicas_most * m + k) 0)))
      ∙ found m k hm h
      ∙ ap (λ (n : ℕ). copy_of roster n (statement_at q wanted m) (items_of q.width q.size item_bytes)) next)
