-- The accepted submissions from a place on: the one that stands there, and the later ones; and what pairs show when one more comes before them.
-- Assumes nothing.
use mathlib.Core.Path.{◌≡◌, ap, ◌∙◌}
use mathlib.Core.List.{List, [], ◌∷◌, ◌++◌, map, Memᴰ}
use Prim.Native.Nat.{ℕ, suc, ◌-◌, ◌≤◌, ◌<◌}
use native.Mathlib.Omega.{arith}
use lib.ListN.{length, drop, get_or, length-map, length-take, drop_of_length-le, get_or-map}
use lib.Seq.{drop-cons, get_or-take}
use borrow.Author.Tests.{ne_eqb}
use Rattle.std.specs.Prelude.{Option, Some, None, IfSome, unwrap_or, option_map}
use Rattle.std.specs.Option.{option_or}
use Rattle.words.proofs.Members.{mem_at}
use Rattle.forensics.specs.Findings.{Findings}
use Rattle.district.specs.declared.Fork.{Fork}
use Rattle.district.specs.declared.Shown.{Shown}
use Rattle.district.specs.District.{Entry, pair, pairs, found, union, first_fork, shown}
use Rattle.district_pairs.specs.declared.Part.{Part}
use Rattle.district_pairs.specs.declared.Entries.{Entries}
use Rattle.district_pairs.specs.Entries.{entry_of, parts_of, entries_of, sooner, before}

-- ---- the submissions

module _ (e : Entries) (whole : e.count ≤ length e.parts) where
  parts-length : length (parts_of e) ≡ e.count
  unfolding parts_of
  parts-length = rw length-take (omega arith)

  -- one of them stands at each place below the count
  pub part_at : (i : ℕ) (d : Part) → i < e.count → Memᴰ (get_or e.parts i d) (parts_of e)
  unfolding parts_of
  part_at i d h = rw (← get_or-take e.count e.parts i d h) (mem_at (parts_of e) i d (omega (arith, parts-length)))

  module _ (buffer : List ℕ) where
    entries-length : length (entries_of buffer e) ≡ e.count
    unfolding entries_of
    entries-length = length-map (parts_of e) (entry_of buffer) ∙ parts-length

    pub entries-end : drop e.count (entries_of buffer e) ≡ []
    entries-end = drop_of_length-le (entries_of buffer e) {i = e.count} (omega (arith, entries-length))

    pub entries_from : (i : ℕ) (d : Part) → i < e.count
        → drop i (entries_of buffer e) ≡ entry_of buffer (get_or e.parts i d) ∷ drop (suc i) (entries_of buffer e)
    unfolding entries_of parts_of
    entries_from i d h =
        drop-cons (entries_of buffer e) i (entry_of buffer d) (omega (arith, entries-length))
        ∙ ap (λ x. x ∷ drop (suc i) (entries_of buffer e))
        (get_or-map (entry_of buffer) (parts_of e) i d ∙ ap (entry_of buffer) (get_or-take e.count e.parts i d h))

-- ---- the fork of a pair before a later one

abbrev pub own_fork : ℕ → ℕ → ℕ → Fork
own_fork lower higher index = record { index = index; lower = lower; higher = higher }

pub own_or_later : (o : Option ℕ) (lower higher : ℕ) (later : Option Fork) {own : Option Fork} → IfSome o (λ index. 0 < index)
    → own ≡ option_map (own_fork lower higher) o → option_or own later ≡ sooner (unwrap_or o 0) lower higher later
unfolding sooner
own_or_later None lower higher later above e = rw e
own_or_later (Some index) lower higher later above e = rw (e, ne_eqb index 0 (λ z. absurd (omega (arith, z, above))))

-- ---- what they show

-- the pairs of one with those from a place on, and then those of the later ones
abbrev pub with_one : List ℕ → List ℕ → Entries → Entry → ℕ → ℕ → Shown
with_one roster buffer e x i j = shown roster (map (pair x) (drop j (entries_of buffer e)) ++ pairs (drop (suc i) (entries_of buffer e)))

module _ (roster buffer : List ℕ) (e : Entries) (whole : e.count ≤ length e.parts) where
  pub with_none : (x : Entry) (i : ℕ) → shown roster (pairs (drop (suc i) (entries_of buffer e))) ≡ with_one roster buffer e x i e.count
  with_none x i = rw (entries-end e whole buffer)

  with-next : (x : Entry) (i j : ℕ) (d : Part) → j < e.count
      → (let y = entry_of buffer (get_or e.parts j d) in
      before x.position y.position (found roster (pair x y)) (with_one roster buffer e x i (suc j))) ≡ with_one roster buffer e x i j
  unfolding shown union first_fork before sooner pair
  with-next x i j d h = rw (entries_from e whole buffer j d h)

  -- one turn: the place is lowered, and its submission paired
  pub with-turn : (x : Entry) (i j : ℕ) (d : Part) (f : Findings) (s : Shown) → 0 < j → j ≤ e.count → s ≡ with_one roster buffer e x i j
      → f ≡ found roster (pair x (entry_of buffer (get_or e.parts (j - 1) d)))
      → before x.position (entry_of buffer (get_or e.parts (j - 1) d)).position f s ≡ with_one roster buffer e x i (j - 1)
  with-turn x i j d f s low high shows finds =
      let again : j ≡ suc (j - 1) = omega arith in
      let y = entry_of buffer (get_or e.parts (j - 1) d) in
      ap (λ (g : Findings). before x.position y.position g s) finds
      ∙ ap (before x.position y.position (found roster (pair x y))) (shows ∙ ap (with_one roster buffer e x i) again)
      ∙ with-next x i (j - 1) d (omega arith)

  pub with_all : (i : ℕ) (d : Part) → i < e.count
      → with_one roster buffer e (entry_of buffer (get_or e.parts i d)) i (suc i) ≡ shown roster (pairs (drop i (entries_of buffer e)))
  unfolding pairs
  with_all i d h = rw (entries_from e whole buffer i d h)
