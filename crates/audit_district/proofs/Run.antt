-- The checks of a run in their order, each after those that passed; and what is left of the report.
-- Assumes nothing.
use mathlib.Core.Path.{◌≡◌, sym, ◌∙◌}
use mathlib.Core.Bool.{true, false}
use mathlib.Core.List.{List}
use Prim.Native.Nat.{ℕ, ◌+◌, ◌≤◌, ◌<◌}
use borrow.Author.Tests.{eq-eqb, ne_eqb, le-leb, lt-leb}
use lib.ListN.{length}
use Rattle.words.specs.Over.{over}
use Rattle.refusal.proofs.Laws.{no_check, passed, refused, first-refused, first-accepted}
use Rattle.roster.specs.Roster.{roster_number}
use Rattle.district_parts.specs.Parts.{parts, counted, adds_up}
use Rattle.district.specs.District.{tail_size, district_number, district_bytes, district_after}

module _ (roster buffer lengths report : List ℕ) where
  -- ---- the report

  pub unwritten : {r : ℕ} → r ≡ district_number roster buffer lengths report → (r ≡ 0 → ⊥) → report ≡ district_after roster buffer lengths report
  unfolding district_after
  unwritten e h = rw (ne_eqb _ 0 (λ z. h (e ∙ z)))

  pub written : {after : List ℕ} → 0 ≡ district_number roster buffer lengths report → after ≡ over (district_bytes roster (parts lengths buffer)) report
      → after ≡ district_after roster buffer lengths report
  unfolding district_after
  written e h = rw (eq-eqb _ 0 (sym e)) h

  -- ---- the number

  pub roster-first : {r : ℕ} → r ≡ roster_number roster → (r ≡ 0 → ⊥) → r ≡ district_number roster buffer lengths report
  unfolding district_number
  roster-first e h = first-refused _ e h

  module _ (fine : roster_number roster ≡ 0) where
    pub number-17 : counted lengths ≡ false → 17 ≡ district_number roster buffer lengths report
    unfolding district_number
    number-17 e = first-accepted fine (sym (refused 17 _ _ e))

    module _ (count : counted lengths ≡ true) where
      pub number-18 : adds_up lengths buffer ≡ false → 18 ≡ district_number roster buffer lengths report
      unfolding district_number
      number-18 e = first-accepted fine (sym (passed 17 _ _ count ∙ refused 18 _ _ e))

      module _ (whole : adds_up lengths buffer ≡ true) where
        pub number-1 : length report < length lengths + tail_size → 1 ≡ district_number roster buffer lengths report
        unfolding district_number
        number-1 h = first-accepted fine (sym (passed 17 _ _ count ∙ passed 18 _ _ whole ∙ refused 1 _ _ (lt-leb _ _ h)))

        pub number-0 : length lengths + tail_size ≤ length report → 0 ≡ district_number roster buffer lengths report
        unfolding district_number
        number-0 h = first-accepted fine (sym (passed 17 _ _ count ∙ passed 18 _ _ whole ∙ passed 1 _ _ (le-leb _ _ h) ∙ no_check))
