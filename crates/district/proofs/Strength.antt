-- What the two claims of a district give, drawn from the claims alone: a claim that said less would not give it.
-- Assumes nothing.
use mathlib.Core.Path.{◌≡◌, refl}
use mathlib.Core.Bool.{true, false}
use mathlib.Core.List.{List, [], ◌∷◌, flat_map, append-nil, Memᴰ}
use Prim.Native.Nat.{ℕ, ◌≤◌, ◌<◌}
use borrow.Author.Tests.{eq-eqb, ne_eqb}
use lib.ListN.{take, drop}
use Rattle.lms.specs.Check.{good}
use Rattle.roster.specs.Roster.{replicas, key_of}
use Rattle.roster.specs.Masks.{signer}
use Rattle.log_chain.specs.Log.{chain_strings, chain_from}
use Rattle.log_chain.specs.Claim.{say}
use Rattle.log_chain.specs.Apart.{Apart}
use Rattle.replica.specs.Replica.{first, keeps, held}
use Rattle.submission.specs.View.{Slot, committed}
use Rattle.submission.specs.Validate.{form_of, view_of, slots_of, validate}
use Rattle.report.specs.Claims.{Differ, OwnSignatures, strings_in, strings, Fair}
use Rattle.district_parts.specs.Parts.{parts}
use Rattle.district.specs.District.{entry, accepted_from, accepted, named_among}
use Rattle.district.specs.Claims.{DistrictNaming, DistrictFairness}

-- three submissions
module _ (roster buffer : List ℕ) (j k l number : ℕ) (report : List ℕ) where
  one : List ℕ
  one = take j buffer

  two : List ℕ
  two = take k (drop j buffer)

  three : List ℕ
  three = take l (drop k (drop j buffer))

  -- naming: the last and the first, which are no neighbours, and not in the list's order
  ends_named : DistrictNaming roster buffer (j ∷ k ∷ l ∷ []) number report → number ≡ 0 → validate roster one ≡ 0 → validate roster three ≡ 0
      → Differ (committed (view_of roster three)) (committed (view_of roster one)) → named_among 3 report ≡ 0 → ⊥
  unfolding DistrictNaming parts one three
  ends_named claim zero_number v₁ v₃ differ nobody =
      claim zero_number three one (Memᴰ.tail (Memᴰ.tail (Memᴰ.head refl))) (Memᴰ.head refl) v₃ v₁ differ nobody

  -- fairness: where the second alone is accepted, nothing is asked of the others' signatures and logs
  others-free : DistrictFairness roster buffer (j ∷ k ∷ l ∷ []) number report → number ≡ 0
      → (validate roster one ≡ 0 → ⊥) → validate roster two ≡ 0 → (validate roster three ≡ 0 → ⊥)
      → (r : ℕ) → 0 < r → r ≤ replicas roster
      → ((x : Slot) → Memᴰ x (slots_of roster two) → good (key_of roster r) (say (form_of roster) x.claim) x.signature ≡ true → ⊥)
      → Apart (strings_in roster two) (strings_in roster two) → signer (named_among 3 report) r ≡ false
  unfolding DistrictFairness Fair OwnSignatures strings keeps held first chain_strings chain_from accepted accepted_from entry parts one two three flat_map
  others-free claim zero_number v₁ v₂ v₃ r low high bad apart =
      (rw (ne_eqb _ 0 v₁, eq-eqb _ 0 v₂, ne_eqb _ 0 v₃) at (claim zero_number r low high []))
      refl (λ x m g. absurd (bad x (rw (append-nil (slots_of roster two)) at m) g)) (rw (append-nil (strings_in roster two)) apart)
