-- One item of the bag, offered to each statement that a walk looks for.
use Rattle.std.specs.Prelude.{◌≡◌, Bool, false, cond, List, [], ◌∷◌, ℕ, suc}
use Rattle.std.specs.Prelude.{◌+◌, ◌-◌, ◌*◌, ◌≤◌, ◌<◌, eqb, length, get_or, take, drop}
use Rattle.words.specs.BigEndian.{same}
use Rattle.refusal.specs.Checks.{all}
use Rattle.sha256.specs.Service.{limit}
use Rattle.lms.specs.Check.{good}
use Rattle.roster.specs.Roster.{replicas, key_of, roster_number}
use Rattle.assembly.specs.Items.{fits}
use Rattle.assembly_items.specs.declared.ItemPlace.{ItemPlace}
use Rattle.assembly_items.specs.Reader.{item_of}
use Rattle.assembly_copies.specs.declared.Sought.{Sought}
use Rattle.roster.specs.Sizes.{replicas_most}
use Rattle.assembly_copies.specs.Rows.{Placed}
use Rattle.assembly_copies.specs.Sought.{statement_at}

-- an item that lies in the bag, with a signature of so many bytes
pub record Lies (size : ℕ) (item_bytes : List ℕ) (i : ItemPlace) : Type 0 where
  pub begins : i.statement < i.signature
  pub ends : i.next ≡ i.signature + size
  pub within : i.next ≤ length item_bytes

-- one of the roster's replicas, and a statement as long as those that are looked for, which begins as they do
pub record Alike (roster item_bytes wanted : List ℕ) (q : Sought) (i : ItemPlace) : Type 0 where
  pub numbered : 0 < i.replica
  pub known : i.replica ≤ replicas roster
  pub long : i.signature ≡ i.statement + (q.head + q.tail)
  pub headed : take q.head (drop i.statement item_bytes) ≡ take q.head wanted

-- the copy of no statement that is looked for
unfoldable pub Unlike : List ℕ → List ℕ → List ℕ → Sought → ItemPlace → Type 0
Unlike roster item_bytes wanted q i =
    (m k : ℕ) → m < q.count → k < replicas roster
    → fits roster (suc k) (statement_at q wanted m) (item_of item_bytes i) ≡ false

-- whether the item's statement ends so, and its signature is good
unfoldable pub is_copy : List ℕ → List ℕ → ItemPlace → List ℕ → Bool
is_copy roster item_bytes i end =
    let item = item_of item_bytes i in
    all (
    same (take (length end) (drop (i.signature - length end) item_bytes)) end ∷
    good (key_of roster i.replica) item.statement item.signature ∷ []
    )

-- what the offer of an item asks for
pub record Offered (roster item_bytes wanted : List ℕ) (q : Sought) (i : ItemPlace) (rows : List ℕ)
    : Type 0 where
  pub fine : roster_number roster ≡ 0
  pub short : q.head + q.tail ≤ limit
  pub inside : q.head + q.tail * q.count ≤ length wanted
  pub cells : replicas_most * q.count ≤ length rows
  pub placed : Placed q.size item_bytes (replicas_most * q.count) rows
  pub lies : Lies q.size item_bytes i
  pub alike : Alike roster item_bytes wanted q i

module _ (roster item_bytes wanted : List ℕ) (q : Sought) (i : ItemPlace) where
  -- what it makes of replica k + 1's place for statement m: a copy where there was none is taken
  unfoldable pub cell_after : List ℕ → ℕ → ℕ → ℕ
  cell_after rows m k =
      let cell = get_or rows (replicas_most * m + k) 0 in
      let fit = fits roster (suc k) (statement_at q wanted m) (item_of item_bytes i) in
      cond (all (eqb cell 0 ∷ fit ∷ [])) i.signature cell

  unfoldable pub Taken : List ℕ → List ℕ → Type 0
  Taken before after =
      (m k : ℕ) → m < q.count → k < replicas roster
      → get_or after (replicas_most * m + k) 0 ≡ cell_after before m k
