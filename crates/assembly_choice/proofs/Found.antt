-- From what a walk over the bag finds to the votes and stamps of each term.
-- Assumes nothing.
use mathlib.Core.Path.{◌≡◌, refl, sym, ap, ◌∙◌}
use mathlib.Core.List.{List}
use mathlib.Core.Option.{none}
use Prim.Native.Nat.{ℕ, zero, suc, ◌+◌, ◌*◌, ◌≤◌, ◌<◌}
use native.Mathlib.Nat.{add-zero, mul-le-mul_left}
use native.Mathlib.Omega.{arith}
use lib.ListN.{length, get_or, take, drop, get_or-map}
use lib.Seq.{sets, get_or-take, get_or-drop}
use Rattle.words.specs.BigEndian.{be}
use Rattle.roster.specs.Roster.{name_size, cluster, replicas, roster_number}
use Rattle.roster.proofs.Accepted.{name-length}
use Rattle.log_chain.specs.Log.{with_terms}
use Rattle.log_chain.specs.Runs.{Run}
use Rattle.submission.specs.Validate.{leader_most}
use Rattle.assembly.specs.Items.{Item, items_of, copy_of, copies_from, copies}
use Rattle.assembly.specs.Choice.{votes_for, stamp_by}
use Rattle.assembly_copies.specs.declared.Sought.{Sought}
use Rattle.roster.specs.Sizes.{replicas_most}
use Rattle.assembly_copies.specs.Rows.{copy_at, copies_at}
use Rattle.assembly_copies.specs.Sought.{CopiesFound}
use Rattle.assembly_terms.specs.Wanted.{vote_head, vote_tail, stamp_head, stamp_tail, VotesIn, StampsIn}
use Rattle.assembly_terms.proofs.Wanted.{votes-set, vote-statement, stamp-statement}
use Rattle.assembly_choice.specs.declared.Terms.{Terms}
use Rattle.assembly_choice.specs.Chosen.{sought_for}
use Rattle.assembly_choice.specs.Settled.{StampsPlaced, VotesPlaced}

-- ---- the copy of one replica, from those of all

copies_at_lem : (roster statement : List ℕ) (is : List Item) (n k j : ℕ) → j < n
    → get_or (copies_from roster n k statement is) j none ≡ copy_of roster (k + j) statement is
unfolding copies_from
copies_at_lem roster statement is zero k j h = absurd (omega arith)
copies_at_lem roster statement is (suc n) k zero h = rw add-zero
copies_at_lem roster statement is (suc n) k (suc j) h =
    let next : suc k + j ≡ k + suc j = omega arith in
    copies_at_lem roster statement is n (suc k) j (omega arith) ∙ rw next

copy_at_lem : (S : ℕ) (item_bytes roster statement places : List ℕ) (is : List Item) (k : ℕ) → k < replicas roster
    → copies_at S item_bytes (replicas roster) places ≡ copies roster statement is
    → copy_at S item_bytes (get_or places k 0) ≡ copy_of roster (suc k) statement is
unfolding copies_at copies copy_at
copy_at_lem S item_bytes roster statement places is k h e =
    let next : 1 + k ≡ suc k = omega arith in
    ap (copy_at S item_bytes) (sym (get_or-take (replicas roster) places k 0 h))
    ∙ sym (get_or-map (copy_at S item_bytes) (take (replicas roster) places) k 0)
    ∙ ap (λ cs. get_or cs k none) e
    ∙ copies_at_lem roster statement is (replicas roster) 1 k h
    ∙ rw next

-- ---- the statements of all terms

-- those of fewer terms are inside too
pub fewer_terms_inside : (head tail count room : ℕ) → count ≤ leader_most → head + tail * leader_most ≤ room → head + tail * count ≤ room
fewer_terms_inside head tail count room few h = omega (arith, mul-le-mul_left tail few)

abbrev pub votes_sought : Terms → Sought
votes_sought terms =
    sought_for terms vote_head (vote_tail terms.width)

abbrev pub stamps_sought : Terms → Sought
stamps_sought terms =
    sought_for terms stamp_head (stamp_tail terms.width)

module _ (roster item_bytes : List ℕ) (terms : Terms) (fine : roster_number roster ≡ 0) (rs : List Run) (all : length rs ≡ terms.count) where
  named : length (cluster roster) ≡ name_size
  named = name-length roster fine

  pub stamps-placed : (stamps stamped : List ℕ) → CopiesFound roster item_bytes stamps (stamps_sought terms) stamped
      → StampsIn (with_terms terms.width (cluster roster)) rs stamps → StampsPlaced roster item_bytes terms rs stamped
  unfolding CopiesFound StampsPlaced stamp_by
  stamps-placed stamps stamped found wanted =
      λ t k h j.
      let form = with_terms terms.width (cluster roster) in
      let items = items_of terms.width terms.size item_bytes in
      let statement = stamp-statement form named rs stamps t (omega arith) (stamps_sought terms) refl refl wanted in
      ap (copy_at terms.size item_bytes) (sym (get_or-drop (replicas_most * t) stamped k 0))
      ∙ copy_at_lem terms.size item_bytes roster _ (drop (replicas_most * t) stamped) items k j (found t h ∙ ap (λ s. copies roster s items) statement)

  pub votes-placed : (candidate : ℕ) (votes voted : List ℕ) → CopiesFound roster item_bytes votes (votes_sought terms) voted
      → VotesIn (with_terms terms.width (cluster roster)) candidate rs votes → VotesPlaced roster item_bytes terms rs candidate voted
  unfolding CopiesFound VotesPlaced votes_for
  votes-placed candidate votes voted found wanted =
      λ t h.
      let form = with_terms terms.width (cluster roster) in
      let items = items_of terms.width terms.size item_bytes in
      let statement = vote-statement form named rs votes t (omega arith) (votes_sought terms) candidate refl refl wanted in
      found t h ∙ ap (λ s. copies roster s items) statement

  pub votes-for : (last candidate : ℕ) (votes after : List ℕ) → after ≡ sets votes stamp_head (be 2 candidate)
      → VotesIn (with_terms terms.width (cluster roster)) last rs votes → VotesIn (with_terms terms.width (cluster roster)) candidate rs after
  votes-for last candidate votes after put wanted = rw put (votes-set (with_terms terms.width (cluster roster)) named rs votes last candidate wanted)
