-- A walk over the bag: what is found so far, with what the items from a place on have, is what all of them have.
-- Assumes nothing.
use mathlib.Core.Path.{◌≡◌, sym, ◌∙◌}
use mathlib.Core.Bool.{true, false≢true}
use mathlib.Core.List.{List}
use Prim.Native.Nat.{ℕ, ◌*◌, ◌≤◌, ◌<◌}
use native.Mathlib.Omega.{arith}
use lib.ListN.{length, get_or, drop}
use Rattle.roster.specs.Roster.{replicas}
use Rattle.roster.proofs.Accepted.{sizes}
use Rattle.assembly.specs.Items.{items_of, whole}
use Rattle.assembly_items.specs.declared.ItemPlace.{ItemPlace}
use Rattle.std.specs.Prelude.{Some, None}
use Rattle.assembly_items.specs.Reader.{item_reading}
use Rattle.assembly_items.proofs.Items.{stands, refused-broken, items-next, whole-next, items-end}
use Rattle.assembly_copies.specs.declared.Sought.{Sought}
use Rattle.roster.specs.Sizes.{replicas_most}
use Rattle.assembly_copies.specs.Rows.{Placed}
use Rattle.assembly_copies.specs.Sought.{Searched, CopiesFound}
use Rattle.assembly_copies.specs.Offers.{Lies, Unlike, Taken}
use Rattle.assembly_copies.proofs.Copies.{Found, found_none, found-taken, found-unlike, found_all}

-- an item that was read lies in the bag
pub item_lies : (w S : ℕ) (item_bytes : List ℕ) (at : ℕ) {i : ItemPlace} → item_reading w S item_bytes at ≡ Some i → Lies S item_bytes i
item_lies w S item_bytes at e =
    let here = stands w S item_bytes at e in
    record { begins = here.signature; ends = here.next; within = here.inside }

module _ (roster item_bytes wanted : List ℕ) (q : Sought) (room : ℕ) where
  pub record Walked (rows : List ℕ) (at : ℕ) : Type 0 where
    pub low : at ≤ length item_bytes
    pub rest : whole q.width q.size (drop at item_bytes) ≡ true
    pub long : length rows ≡ room
    pub placed : Placed q.size item_bytes (replicas_most * q.count) rows
    pub found : Found roster item_bytes wanted q rows (items_of q.width q.size (drop at item_bytes)) (items_of q.width q.size item_bytes)

  module _ (s : Searched roster item_bytes wanted q room) where
    few : replicas roster ≤ replicas_most
    few = (sizes roster s.fine).high

    -- nothing is found before the first item
    pub walked_none : (rows : List ℕ) → length rows ≡ room → ((j : ℕ) → j < replicas_most * q.count → get_or rows j 0 ≡ 0) → Walked rows 0
    unfolding Placed
    walked_none rows long empty =
        record {
          low = omega arith;
          rest = s.items;
          long = long;
          placed = λ j h. rw (empty j h) (omega arith);
          found = found_none roster item_bytes wanted q rows (items_of q.width q.size item_bytes) empty few;
        }

    pub walked_all : (rows : List ℕ) (at : ℕ) → Walked rows at → length item_bytes ≤ at → CopiesFound roster item_bytes wanted q rows
    walked_all rows at walked end =
        found_all roster item_bytes wanted q rows few (omega (arith, s.cells, walked.long)) (rw (items-end q.width q.size item_bytes at end) at walked.found)

  module _ (rows : List ℕ) (at : ℕ) (walked : Walked rows at) (more : at < length item_bytes) where
    -- every item is read
    pub never : item_reading q.width q.size item_bytes at ≡ None → ⊥
    never e = false≢true (sym (refused-broken q.width q.size item_bytes at more e) ∙ walked.rest)

    module _ {i : ItemPlace} (e : item_reading q.width q.size item_bytes at ≡ Some i) where
      next-rest : whole q.width q.size (drop i.next item_bytes) ≡ true
      next-rest = sym (whole-next q.width q.size item_bytes at more e) ∙ walked.rest

      -- past an item that is no copy
      pub walked-unlike : Unlike roster item_bytes wanted q i → Walked rows i.next
      walked-unlike unlike =
          record {
            low = (stands q.width q.size item_bytes at e).inside;
            rest = next-rest;
            long = walked.long;
            placed = walked.placed;
            found = found-unlike roster item_bytes wanted q i rows (items_of q.width q.size (drop i.next item_bytes)) (items_of q.width q.size item_bytes)
                (rw (items-next q.width q.size item_bytes at more e) at walked.found) unlike;
          }

      -- past one that was offered
      pub walked-taken : (after : List ℕ) → Taken roster item_bytes wanted q i rows after → Placed q.size item_bytes (replicas_most * q.count) after
          → length after ≡ length rows → Walked after i.next
      walked-taken after taken placed long =
          record {
            low = (stands q.width q.size item_bytes at e).inside;
            rest = next-rest;
            long = long ∙ walked.long;
            placed = placed;
            found = found-taken roster item_bytes wanted q i rows (items_of q.width q.size (drop i.next item_bytes)) (items_of q.width q.size item_bytes)
                (rw (items-next q.width q.size item_bytes at more e) at walked.found) after (item_lies q.width q.size item_bytes at e) taken;
          }

-- the room as another says it
pub searched_room : (roster item_bytes wanted : List ℕ) (q : Sought) {room other : ℕ} → other ≡ room → Searched roster item_bytes wanted q room → Searched roster item_bytes wanted q other
searched_room roster item_bytes wanted q e s = rw e s
