-- What the claim on the chain steps gives, drawn from it as a hypothesis: a claim that said less would not give these.
-- Assumes nothing.
use Rattle.std.specs.Prelude.{Some}
use mathlib.Core.Path.{◌≡◌, ◌∙◌}
use mathlib.Core.Bool.{true, false}
use mathlib.Core.List.{List}
use mathlib.Core.Logic.{⊎_elim}
use Prim.Native.Nat.{ℕ, ◌+◌, ◌*◌, ◌/◌, ◌≤◌, ◌<◌}
use native.Mathlib.Omega.{arith}
use Rattle.words.specs.BigEndian.{number_at}
use Rattle.refusal.proofs.Laws.{look}
use Rattle.lm_digits.specs.Parameters.{row, one_time, byte_digits}
use Rattle.lm_digits.specs.Digits.{checksum}
use Rattle.lms.specs.Check.{hash_of}
use Rattle.lms.specs.Steps.{reached, StepsCounted}

module _ (key message sig : List ℕ) {n : ℕ} (claim : StepsCounted key message sig n) where
  -- a count of 0 tells that the chains were not reached
  pub zero-unreached : n ≡ 0 → reached key message sig ≡ false
  zero-unreached z =
      ⊎_elim (λ e. let more = claim.some e in absurd (omega arith)) (λ e. e) (look (reached key message sig))

  -- for 8-bit digits a checksum of k times 256, and any up to 255 above it, has one count
  pub whole-counted : reached key message sig ≡ true → one_time (number_at 4 key 4) ≡ Some byte_digits
      → (k r : ℕ) → r < 256 → checksum byte_digits (hash_of key message sig) ≡ 256 * k + r → n ≡ 510 + 255 * k
  whole-counted e t k r less sum =
      let whole : checksum byte_digits (hash_of key message sig) / 256 ≡ k = omega arith in
      claim.bytes e t ∙ rw whole

  -- the bounds in numbers, by type
  pub types-most : (one_time (number_at 4 key 4) ≡ Some (row 1 265 7) → n ≤ 265) × (one_time (number_at 4 key 4) ≡ Some (row 2 133 6) → n ≤ 399)
      × (one_time (number_at 4 key 4) ≡ Some (row 4 67 4) → n ≤ 1005) × (one_time (number_at 4 key 4) ≡ Some byte_digits → n ≤ 8670)
  unfolding row
  types-most = (claim.most _, claim.most _, claim.most _, claim.most _)
