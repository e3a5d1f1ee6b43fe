-- Candidates tried from n down: each comes before those above it, and rows stay inside the bag.
-- Assumes nothing.
use mathlib.Core.Path.{◌≡◌, ap, ◌∙◌}
use mathlib.Core.Bool.{true, false, cond}
use mathlib.Core.List.{List, ◌∷◌}
use mathlib.Core.Logic.{⊎_elim}
use mathlib.Core.Option.{or_else}
use Prim.Native.Nat.{ℕ, zero, suc, ◌+◌, ◌-◌, ◌*◌, ◌≤◌, ◌<◌}
use native.Mathlib.Nat.{add-zero}
use native.Mathlib.Omega.{arith}
use borrow.Author.Tests.{eq-eqb, ne_eqb}
use lib.Dec.{eqb}
use lib.ListN.{length, get_or, take, drop}
use lib.Seq.{get_or-take, get_or-drop}
use Rattle.refusal.proofs.Laws.{look}
use Rattle.roster.specs.Roster.{cluster, replicas}
use Rattle.log_chain.specs.Log.{with_terms}
use Rattle.log_chain.specs.Runs.{Run}
use Rattle.submission_encoding.specs.Copies.{signers_of}
use Rattle.assembly.specs.Items.{items_of}
use Rattle.assembly.specs.Choice.{lead_by, lead_from}
use Rattle.roster.specs.Sizes.{replicas_most}
use Rattle.assembly_copies.specs.Rows.{taken_size, copies_at, Placed, row_at}
use Rattle.assembly_copies.proofs.Taken.{row_cell}
use Rattle.assembly_choice.specs.declared.Terms.{Terms}
use Rattle.assembly_choice.specs.Chosen.{RowsHeld}
use Rattle.assembly_choice.specs.Settled.{electable, settled_row, Settled, lead_of_row, term_at, StampsPlaced, VotesPlaced, Tried}
use Rattle.assembly_choice.proofs.Tested.{lead-settled}

-- ---- the rows

module _ (roster item_bytes : List ℕ) (terms : Terms) (rs : List Run) where
  -- no candidate is above n
  pub tried-none : (taken : List ℕ) → ((j : ℕ) → j < taken_size * terms.count → get_or taken j 0 ≡ 0) → Tried roster item_bytes terms rs (replicas roster) taken
  unfolding Tried lead_of_row lead_from
  tried-none taken clear =
      λ t h.
      let none_left : replicas roster - replicas roster ≡ 0 = omega arith in
      rw (none_left, eq-eqb (get_or (row_at taken t) 0 0) 0 (row_cell taken t 0 (omega arith) ∙ clear (taken_size * t + 0) (omega arith)))

  module _ (c : ℕ) (some_one : 0 < c) (inside : c ≤ replicas roster) (few : replicas roster ≤ replicas_most) (voted stamped before after : List ℕ)
      (votes : VotesPlaced roster item_bytes terms rs c voted)
      (stamps : StampsPlaced roster item_bytes terms rs stamped)
      (settled : Settled (replicas roster) c voted stamped terms.count before after) where
    pub tried-next : Tried roster item_bytes terms rs c before → Tried roster item_bytes terms rs (c - 1) after
    unfolding Tried Settled StampsPlaced VotesPlaced lead_from
    tried-next tried =
        λ t h.
        let form = with_terms terms.width (cluster roster) in
        let items = items_of terms.width terms.size item_bytes in
        let r = term_at rs t in
        let there : replicas_most * t + (c - 1) ≡ replicas_most * t + c - 1 = omega arith in
        let same : suc (c - 1) ≡ c = omega arith in
        let more : replicas roster - (c - 1) ≡ suc (replicas roster - c) = omega arith in
        let stamp = rw (there, same) at (stamps t (c - 1) h (omega arith)) in
        rw (settled terms.size item_bytes t h, more, same)
        (lead-settled terms.size item_bytes form roster items few c some_one r (drop (replicas_most * t) voted) (get_or stamped (replicas_most * t + c - 1) 0) (row_at before t) (votes t h) stamp
        ∙ ap (or_else (lead_by form roster items c r)) (tried t h))

-- ---- rows inside the bag

module _ (S : ℕ) (item_bytes : List ℕ) (n c : ℕ) where
  cell-settled : (votes row : List ℕ) (stamp k most : ℕ) → get_or row k 0 ≤ most → get_or (c ∷ stamp ∷ take replicas_most votes) k 0 ≤ most
      → get_or (settled_row S item_bytes n c votes stamp row) k 0 ≤ most
  unfolding settled_row
  cell-settled votes row stamp k most old new =
      let test = electable n (signers_of (copies_at S item_bytes n votes)) c stamp in
      ⊎_elim (λ (h : test ≡ true). rw h new) (λ (h : test ≡ false). rw h old) (look test)

  module _ (count : ℕ) (inside : 0 < c) (high : c ≤ n) (few : n ≤ replicas_most) (voted stamped before after : List ℕ)
      (settled : Settled n c voted stamped count before after) where
    cell-after : (t k most : ℕ) → t < count → k < taken_size → get_or before (taken_size * t + k) 0 ≤ most
        → get_or (c ∷ get_or stamped (replicas_most * t + c - 1) 0 ∷ take replicas_most (drop (replicas_most * t) voted)) k 0 ≤ most
        → get_or after (taken_size * t + k) 0 ≤ most
    unfolding Settled
    cell-after t k most h j old new =
        rw (← row_cell after t k j, settled S item_bytes t h)
        (cell-settled (drop (replicas_most * t) voted) (row_at before t) (get_or stamped (replicas_most * t + c - 1) 0) k most (rw (row_cell before t k j) old) new)

    new-place : Placed S item_bytes (replicas_most * count) voted → Placed S item_bytes (replicas_most * count) stamped
        → (t k : ℕ) → t < count → 0 < k → k < taken_size
        → get_or (c ∷ get_or stamped (replicas_most * t + c - 1) 0 ∷ take replicas_most (drop (replicas_most * t) voted)) k 0 ≤ length item_bytes - S
    unfolding Placed
    new-place votes stamps t zero h some-place j = absurd (omega arith)
    new-place votes stamps t (suc zero) h some-place j = stamps (replicas_most * t + c - 1) (omega arith)
    new-place votes stamps t (suc (suc k)) h some-place j =
        rw (get_or-take replicas_most (drop (replicas_most * t) voted) k 0 (omega arith), get_or-drop (replicas_most * t) voted k 0)
        (votes (replicas_most * t + k) (omega arith))

    pub held_next : Placed S item_bytes (replicas_most * count) voted → Placed S item_bytes (replicas_most * count) stamped
        → RowsHeld S item_bytes n count before → RowsHeld S item_bytes n count after
    held_next votes stamps held =
        record {
          candidates =
              λ t h.
              let first = cell-after t 0 n h (omega arith) (rw add-zero (held.candidates t h)) high in
              rw add-zero at first;
          places =
              λ t k h some-place j.
              cell-after t k (length item_bytes - S) h j (held.places t k h some-place j) (new-place votes stamps t k h some-place j);
        }

-- an empty table
pub held_none : (S : ℕ) (item_bytes : List ℕ) (n count : ℕ) (taken : List ℕ) → ((j : ℕ) → j < taken_size * count → get_or taken j 0 ≡ 0) → RowsHeld S item_bytes n count taken
held_none S item_bytes n count taken clear =
    record {
      candidates = λ t h. rw (clear (taken_size * t) (omega arith)) (omega arith);
      places = λ t k h some-place j. rw (clear (taken_size * t + k) (omega arith)) (omega arith);
    }

-- ---- the candidate that the votes' table is for

unfoldable pub last_tried : ℕ → ℕ → ℕ
last_tried n c = cond (eqb c n) 0 (suc c)

pub last_none : (n c : ℕ) → c ≡ n → last_tried n c ≡ 0
unfolding last_tried
last_none n c e = rw (eq-eqb c n e)

pub last_next : (n c : ℕ) → 0 < c → c ≤ n → last_tried n (c - 1) ≡ c
unfolding last_tried
last_next n c some_one inside =
    let same : suc (c - 1) ≡ c = omega arith in
    rw (ne_eqb (c - 1) n (λ e. omega arith)) same
