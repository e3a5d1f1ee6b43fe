-- What a walk over the bag looks for: statements that begin alike, in one buffer, and where their copies are
-- put down.
use Rattle.std.specs.Prelude.{◌≡◌, true, List, ◌++◌, ℕ, ◌+◌, ◌*◌, ◌≤◌, ◌<◌, length, take, drop}
use Rattle.words.specs.Widths.{width_most}
use Rattle.sha256.specs.Service.{limit}
use Rattle.roster.specs.Roster.{replicas, roster_number}
use Rattle.roster.specs.Sizes.{replicas_most, signature_most}
use Rattle.assembly.specs.Items.{items_of, whole, copies}
use Rattle.assembly_copies.specs.declared.Sought.{Sought}
use Rattle.assembly_copies.specs.Rows.{copies_at}

-- statement m: what all begin with, then its own end
unfoldable pub statement_at : Sought → List ℕ → ℕ → List ℕ
statement_at q wanted m = take q.head wanted ++ take q.tail (drop (q.head + q.tail * m) wanted)

-- what the walk asks for
pub record Searched (roster item_bytes wanted : List ℕ) (q : Sought) (room : ℕ) : Type 0 where
  pub fine : roster_number roster ≡ 0
  pub width : q.width ≤ width_most
  pub size : q.size ≤ signature_most
  pub items : whole q.width q.size item_bytes ≡ true
  pub short : q.head + q.tail ≤ limit
  pub inside : q.head + q.tail * q.count ≤ length wanted
  pub cells : replicas_most * q.count ≤ room

-- what it gives: row m has the copies of statement m
unfoldable pub CopiesFound : List ℕ → List ℕ → List ℕ → Sought → List ℕ → Type 0
CopiesFound roster item_bytes wanted q rows =
    (m : ℕ) → m < q.count
    → copies_at q.size item_bytes (replicas roster) (drop (replicas_most * m) rows)
    ≡ copies roster (statement_at q wanted m) (items_of q.width q.size item_bytes)
