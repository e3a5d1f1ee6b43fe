-- The bag of items (document 02, W3): each a replica's number (u16), a statement and a signature, one after
-- the other, over the term's width w and the signature's length S; check 19; and which copy counts.
use Rattle.std.specs.Prelude.{Bool, true, false, cond, List, [], ◌∷◌, ℕ}
use Rattle.std.specs.Prelude.{zero, suc, ◌+◌, ◌-◌, eqb, ltb, get_or, take, drop}
use Rattle.std.proofs.Math.Option.{Option, some, none}
use Rattle.words.specs.BigEndian.{number_at, same}
use Rattle.refusal.specs.Checks.{all}
use Rattle.lms.specs.Check.{good}
use Rattle.roster.specs.Roster.{name_size, replicas, key_of}
use Rattle.submission.specs.Reading.{ballot_size}

-- ---- the items

pub record Item : Type 0 where
  pub replica : ℕ
  pub statement : List ℕ
  pub signature : List ℕ

-- the bytes of a statement by its kind, 1 to 3: a stamp's and a receipt's, a vote's; 0 for any other kind
unfoldable pub statement_size : ℕ → ℕ → ℕ
statement_size w kind =
    let place = 1 + name_size + w + 4 + 32 in
    cond (eqb kind 1) place (cond (eqb kind 2) place (cond (eqb kind 3) (1 + name_size + ballot_size w) 0))

-- those of the first item's statement, by its kind byte, the third; 0 where there is no such byte
unfoldable pub first_size : ℕ → List ℕ → ℕ
first_size w item_bytes = statement_size w (get_or item_bytes 2 0)

module _ (w S : ℕ) where
  unfoldable pub item_size : List ℕ → ℕ
  item_size item_bytes = 2 + first_size w item_bytes + S

  unfoldable pub first_item : List ℕ → Item
  first_item item_bytes =
      let end = 2 + first_size w item_bytes in
      record {
        replica = number_at 2 item_bytes 0;
        statement = take (first_size w item_bytes) (drop 2 item_bytes);
        signature = take S (drop end item_bytes);
      }

  -- the items after so many bytes
  unfoldable pub items_after : ℕ → List ℕ → List Item
  items_after skip [] = []
  items_after zero (b ∷ bs) = first_item (b ∷ bs) ∷ items_after (item_size (b ∷ bs) - 1) bs
  items_after (suc skip) (b ∷ bs) = items_after skip bs

  unfoldable pub items_of : List ℕ → List Item
  items_of item_bytes = items_after 0 item_bytes

  -- 19: after so many bytes every kind byte is 1, 2 or 3, and the bag does not end inside an item
  unfoldable pub whole_after : ℕ → List ℕ → Bool
  whole_after zero [] = true
  whole_after (suc skip) [] = false
  whole_after zero (b ∷ bs) =
      cond (ltb 0 (first_size w (b ∷ bs))) (whole_after (item_size (b ∷ bs) - 1) bs) false
  whole_after (suc skip) (b ∷ bs) = whole_after skip bs

  unfoldable pub whole : List ℕ → Bool
  whole item_bytes = whole_after 0 item_bytes

-- ---- the copy that counts

-- an item that is replica k's, on a statement, with a good signature. A statement has the cluster's name in
-- it: items of another cluster are passed over, and so are those of no replica
unfoldable pub fits : List ℕ → ℕ → List ℕ → Item → Bool
fits roster k statement i =
    all (
    eqb i.replica k ∷ same i.statement statement ∷
    good (key_of roster k) statement i.signature ∷ []
    )

-- a repeat by its first copy
unfoldable pub copy_of : List ℕ → ℕ → List ℕ → List Item → Option (List ℕ)
copy_of roster k statement [] = none
copy_of roster k statement (i ∷ is) =
    cond (fits roster k statement i) (some i.signature) (copy_of roster k statement is)

-- those of so many replicas from k on
unfoldable pub copies_from : List ℕ → ℕ → ℕ → List ℕ → List Item → List (Option (List ℕ))
copies_from roster zero k statement is = []
copies_from roster (suc count) k statement is =
    copy_of roster k statement is ∷ copies_from roster count (suc k) statement is

-- those of replicas 1 to n
unfoldable pub copies : List ℕ → List ℕ → List Item → List (Option (List ℕ))
copies roster statement is = copies_from roster (replicas roster) 1 statement is
