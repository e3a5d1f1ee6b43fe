-- The items of a bag as the code reads them: where each part stands.
use Rattle.std.specs.Prelude.{Option, Some, None}
use Rattle.std.specs.Prelude.{cond, List, [], ◌∷◌, ℕ, ◌+◌, ◌-◌, leb, ltb, length, get_or, take, drop}
use Rattle.words.specs.BigEndian.{number_at}
use Rattle.refusal.specs.Checks.{all}
use Rattle.assembly.specs.Items.{Item, statement_size}
use Rattle.assembly_items.specs.declared.ItemPlace.{ItemPlace}

-- the item at a place, whose statement has so many bytes
abbrev pub item_at : ℕ → List ℕ → ℕ → ℕ → ItemPlace
item_at S item_bytes at size =
    let signature = at + 2 + size in
    let next = signature + S in
    record { replica = number_at 2 item_bytes at; statement = at + 2; signature = signature; next = next }

-- the item at a place; none where its kind is none or the bag ends inside it
unfoldable pub item_reading : ℕ → ℕ → List ℕ → ℕ → Option ItemPlace
item_reading w S item_bytes at =
    let size = statement_size w (get_or item_bytes (at + 2) 0) in
    let next = at + 2 + size + S in
    cond (all (ltb 0 size ∷ leb next (length item_bytes) ∷ [])) (Some (item_at S item_bytes at size)) None

-- what the item says
unfoldable pub item_of : List ℕ → ItemPlace → Item
item_of item_bytes i =
    record {
      replica = i.replica;
      statement = take (i.signature - i.statement) (drop i.statement item_bytes);
      signature = take (i.next - i.signature) (drop i.signature item_bytes);
    }
