-- A replica that keeps the board rules and the leaf rule has no charge in two accepted ones of some submissions: check 15 makes each of its signatures
-- good, so that its statement was signed with its leaf, and with it the claim.
-- Assumes nothing.
use mathlib.Core.Path.{◌≡◌, ap}
use mathlib.Core.Bool.{true}
use mathlib.Core.List.Memᴰ
use mathlib.Core.List.{List, [], ◌++◌, flat_map, Memᴰ}
use mathlib.Core.Logic.{⊎_elim}
use Prim.Native.Nat.{ℕ, ◌^◌, ◌<◌}
use Rattle.words.proofs.Bytes.{Bytes}
use Rattle.refusal.proofs.Laws.{every-mem}
use Rattle.lm_format.specs.Uses.{Use, use_of}
use Rattle.lms.specs.Check.{good}
use Rattle.roster.specs.Roster.{replicas, key_of}
use Rattle.log_chain.specs.Log.{chain_strings}
use Rattle.log_chain.specs.Claim.{say}
use Rattle.log_chain.specs.Apart.{Apart}
use Rattle.replica.specs.Replica.{Act, first, keeps, signed, held, use_in}
use Rattle.submission.specs.Validate.{genuine, slot_use, form_of, slots_of, validate}
use Rattle.submission.proofs.Accepted.{validated}
use Rattle.submission.proofs.Fits.{accepted_speaks}
use Rattle.submission.proofs.Slots.{mem-flat_map}
use Rattle.forensics.specs.Findings.{all_charges}
use Rattle.forensics.proofs.Fair.{Signed, fair, Used, fair-leaves, own-claim}
use Rattle.report.specs.Claims.{OwnSignatures, strings_in, strings}

module _ (roster : List ℕ) (submissions : List (List ℕ)) (few : replicas roster < 256 ^ 2) (k : ℕ) (acts : List Act)
    (keep : keeps (form_of roster) (replicas roster) first acts ≡ true) (own : OwnSignatures roster submissions k acts)
    (apart : Apart (strings roster submissions acts) (strings roster submissions acts)) where
  -- of one of the submissions: each of the replica's signatures in it is a use of a leaf in its acts
  slots-used : (s : List ℕ) → Memᴰ s submissions → validate roster s ≡ 0
      → Used (form_of roster) (replicas roster) (slot_use (form_of roster) roster) k (slots_of roster s) acts
  unfolding OwnSignatures genuine slot_use
  slots-used s among valid x m replica =
      let form = form_of roster in
      let signature : good (key_of roster k) (say form x.claim) x.signature ≡ true =
      rw replica at (every-mem (genuine form roster) (slots_of roster s) (validated roster s valid).signatures x m) in
      rw replica (own x (mem-flat_map (slots_of roster) among m) signature)

  -- and all that it says was signed in them
  slots-signed : (s : List ℕ) → Memᴰ s submissions → Bytes s → validate roster s ≡ 0
      → Signed (form_of roster) (replicas roster) k (slots_of roster s) acts
  unfolding strings strings_in slot_use use_in use_of
  slots-signed s among bytes valid x m replica =
      let form = form_of roster in
      let speaks = accepted_speaks roster s bytes (validated roster s valid) x m in
      let z = Memᴰ.of_map (use_in form) (signed first acts) (slots-used s among valid x m replica) in
      let claim = own-claim form (replicas roster) few acts keep (strings roster submissions acts) apart
      (λ y h. Memᴰ.append_left _ h) x.claim speaks.fits
      (λ y h. Memᴰ.append_right (flat_map (chain_strings form) (held first acts)) (mem-flat_map (strings_in roster) among (speaks.strings y h)))
      z.0 z.1 (ap (λ (u : Use). u.message) z.2) in
      (z.0, z.1, claim)

  -- of two of them: no charge
  pub rows-fair : (s₁ s₂ : List ℕ) → Memᴰ s₁ submissions → Memᴰ s₂ submissions → Bytes s₁ → Bytes s₂
      → validate roster s₁ ≡ 0 → validate roster s₂ ≡ 0
      → all_charges (slot_use (form_of roster) roster) k (slots_of roster s₁) (slots_of roster s₂) ≡ []
  unfolding all_charges
  rows-fair s₁ s₂ in₁ in₂ b₁ b₂ v₁ v₂ =
      let form = form_of roster in
      let n = replicas roster in
      let crossed = fair form n k (slots_of roster s₁) (slots_of roster s₂) acts keep (slots-signed s₁ in₁ b₁ v₁) (slots-signed s₂ in₂ b₂ v₂) in
      let both : Used form n (slot_use form roster) k (slots_of roster s₁ ++ slots_of roster s₂) acts =
      λ x m replica.
      ⊎_elim (λ h. slots-used s₁ in₁ v₁ x h replica) (λ h. slots-used s₂ in₂ v₂ x h replica) (Memᴰ.append_cases (slots_of roster s₁) m) in
      rw (crossed, fair-leaves form n (slot_use form roster) k (slots_of roster s₁ ++ slots_of roster s₂) acts keep both)
