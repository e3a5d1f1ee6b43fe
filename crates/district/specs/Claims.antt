-- Demand 3 of a district, on the number and the bytes of its report: naming and fairness over the list.
use Rattle.std.specs.Prelude.{◌≡◌, ℕ, length}
use mathlib.Core.List.{List, map, Memᴰ}
use Rattle.submission.specs.View.{committed}
use Rattle.submission.specs.Validate.{validate, view_of}
use Rattle.report.specs.Claims.{Differ, Fair}
use Rattle.district_parts.specs.Parts.{parts}
use Rattle.district.specs.District.{accepted, named_among}

module _ (roster buffer lengths : List ℕ) where
  -- "any two accepted submissions in the list" that differ at an index committed in both get at least one
  -- replica named
  unfoldable pub DistrictNaming : ℕ → List ℕ → Type 0
  DistrictNaming number report =
      number ≡ 0
      → (a b : List ℕ) → Memᴰ a (parts lengths buffer) → Memᴰ b (parts lengths buffer)
      → validate roster a ≡ 0 → validate roster b ≡ 0
      → Differ (committed (view_of roster a)) (committed (view_of roster b))
      → named_among (length lengths) report ≡ 0 → ⊥

  -- a replica whose acts all kept the board rules is never named, on premises over the accepted submissions
  -- alone. With another number than 0 there is no report
  unfoldable pub DistrictFairness : ℕ → List ℕ → Type 0
  DistrictFairness number report =
      number ≡ 0
      → Fair roster (map (λ e. e.bytes) (accepted roster (parts lengths buffer)))
      (named_among (length lengths) report)
