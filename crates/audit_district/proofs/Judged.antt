-- One submission judged: the accepted ones have it behind them, with its pointers, if it is accepted, and the report has its number.
-- Assumes nothing.
use mathlib.Core.Path.{◌≡◌, refl, sym, ap, ◌∙◌}
use mathlib.Core.Bool.{true, cond}
use mathlib.Core.List.Memᴰ
use mathlib.Core.List.{List, [], ◌∷◌, ◌++◌, map, map-append, Memᴰ}
use mathlib.Core.Logic.{⊎_elim}
use Prim.Native.Nat.{ℕ, suc, ◌+◌, ◌≤◌, ◌<◌}
use native.Mathlib.Omega.{arith}
use borrow.Author.Tests.{eqb-true, ne_eqb}
use lib.Dec.{eqb}
use lib.ListN.{length, take, drop, get_or}
use lib.Seq.{sets, length-take-le}
use Rattle.words.specs.BigEndian.{be}
use Rattle.words.specs.Over.{over}
use Rattle.words.proofs.Laws.{length-be}
use Rattle.words.proofs.Over.{over_next}
use Rattle.submission.specs.Validate.{form_of, view_of, validate}
use Rattle.std.specs.Prelude.{Result, Ok, Err}
use Rattle.refusal.specs.declared.Refusal.{Refusal}
use Rattle.refusal.specs.Refusals.{number, number_of}
use Rattle.refusal.proofs.Refusals.{number-nonzero}
use Rattle.log_terms.specs.declared.LogPointers.{LogPointers}
use Rattle.submission_checks.specs.Pointers.{PointersHanded}
use Rattle.district_parts.specs.Parts.{parts, total, adds_up}
use Rattle.district_parts.proofs.Parts.{parts-length, sum_next, sum-some, part_next}
use Rattle.district.specs.District.{entry, accepted_from, number_bytes}
use Rattle.district.proofs.Judged.{numbers-length, numbers-next, entered, accepted-next}
use Rattle.district_pairs.specs.declared.Part.{Part}
use Rattle.district_pairs.specs.declared.Entries.{Entries}
use Rattle.district_pairs.specs.Entries.{entry_of, parts_of, entries_of, judged, Fit}

module _ (roster buffer sizes : List ℕ) (i : ℕ) (inside : i < length sizes) where
  -- the next submission
  unfoldable pub this : List ℕ
  this = take (get_or sizes i 0) (drop (total (take i sizes)) buffer)

  -- those before it
  few : length (take i (parts sizes buffer)) ≡ i
  few = length-take-le i (parts sizes buffer) (omega (arith, parts-length sizes buffer))

  pub room_of : adds_up sizes buffer ≡ true → (start : ℕ) → start ≡ total (take i sizes) → start + get_or sizes i 0 ≤ length buffer
  unfolding adds_up
  room_of whole start at = omega (arith, sum_next sizes i inside, sum-some sizes (suc i), eqb-true (total sizes) (length buffer) whole, at)

  -- ---- the number

  pub number_put : (e : List ℕ) → length sizes ≤ length e
      → sets (over (number_bytes roster (take i (parts sizes buffer))) e) i (be 1 (validate roster this))
      ≡ over (number_bytes roster (take (suc i) (parts sizes buffer))) e
  unfolding this
  number_put e room =
      over_next (number_bytes roster (take i (parts sizes buffer))) e (be 1 (validate roster this)) i (numbers-length roster (take i (parts sizes buffer)) ∙ few)
      (omega (arith, length-be 1 (validate roster this), room))
      ∙ ap (λ z. over z e) (sym (numbers-next roster (take i (parts sizes buffer)) this) ∙ ap (number_bytes roster) (sym (part_next sizes buffer i inside)))

  -- ---- the entry

  entry-judged : (validated : Result LogPointers Refusal) (start size : ℕ)
      → map (entry_of buffer) (judged validated i start size) ≡ cond (eqb (number_of validated) 0) (entry (suc i) (take size (drop start buffer)) ∷ []) []
  unfolding judged entry_of
  entry-judged (Ok pointers) start size = refl
  entry-judged (Err e) start size = rw (ne_eqb (number e) 0 (number-nonzero e))

  pub entries_next : (e f : Entries) (validated : Result LogPointers Refusal) (start size : ℕ) → start ≡ total (take i sizes) → size ≡ get_or sizes i 0
      → number_of validated ≡ validate roster this → parts_of f ≡ parts_of e ++ judged validated i start size
      → entries_of buffer e ≡ accepted_from roster 1 (take i (parts sizes buffer)) → entries_of buffer f ≡ accepted_from roster 1 (take (suc i) (parts sizes buffer))
  unfolding entries_of entered this
  entries_next e f validated start size at long n more held =
      let place : 1 + length (take i (parts sizes buffer)) ≡ suc i = omega (arith, few) in
      ap (map (entry_of buffer)) more ∙ map-append (entry_of buffer) (parts_of e) (judged validated i start size)
      ∙ (λ k. held k ++ entry-judged validated start size k)
      ∙ (λ k. accepted_from roster 1 (take i (parts sizes buffer)) ++ cond (eqb (n k) 0) (entry (suc i) (take (long k) (drop (at k) buffer)) ∷ []) [])
      ∙ ap (λ k. accepted_from roster 1 (take i (parts sizes buffer)) ++ entered roster k this) (sym place)
      ∙ sym (accepted-next roster (take i (parts sizes buffer)) 1 this) ∙ ap (accepted_from roster 1) (sym (part_next sizes buffer i inside))

  fits-judged : adds_up sizes buffer ≡ true → (validated : Result LogPointers Refusal) (start size : ℕ) → start ≡ total (take i sizes) → size ≡ get_or sizes i 0
      → number_of validated ≡ validate roster this → PointersHanded (form_of roster) (view_of roster (take size (drop start buffer))) validated
      → (p : Part) → Memᴰ p (judged validated i start size) → Fit roster buffer p
  unfolding judged entry_of entry this
  fits-judged whole (Ok pointers) start size at long n handed p m =
      let same = Memᴰ.eq_of_singleton m in
      let valid : validate roster (take size (drop start buffer)) ≡ 0 =
      (λ k. validate roster (take (long k) (drop (at k) buffer))) ∙ sym n in
      rw same (record { inside = omega (arith, room_of whole start at, long); valid = valid; pointed = handed })
  fits-judged whole (Err e) start size at long n handed p m = absurd (Memᴰ.not-nil m)

  pub fits_next : adds_up sizes buffer ≡ true → (e f : Entries) (validated : Result LogPointers Refusal) (start size : ℕ) → start ≡ total (take i sizes) → size ≡ get_or sizes i 0
      → number_of validated ≡ validate roster this → PointersHanded (form_of roster) (view_of roster (take size (drop start buffer))) validated
      → parts_of f ≡ parts_of e ++ judged validated i start size
      → ((p : Part) → Memᴰ p (parts_of e) → Fit roster buffer p) → (p : Part) → Memᴰ p (parts_of f) → Fit roster buffer p
  fits_next whole e f validated start size at long n handed more held p m =
      ⊎_elim
      (λ (h : Memᴰ p (parts_of e)). held p h)
      (λ h. fits-judged whole validated start size at long n handed p h)
      (Memᴰ.append_cases (parts_of e) (rw more at m))
