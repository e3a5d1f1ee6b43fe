-- Check 10, one certificate after the other: the first mask that is not quorate, or the last, gives the answer.
-- Assumes nothing.
use mathlib.Core.Path.{◌≡◌, refl, sym, ap, ◌∙◌}
use mathlib.Core.Bool.{Bool, true, false, not, cond}
use mathlib.Core.List.{List, map}
use Prim.Native.Nat.{ℕ, ◌+◌, ◌-◌, ◌≤◌, ◌<◌}
use native.Mathlib.Omega.{arith}
use borrow.Author.Tests.{not-true, not-false}
use Rattle.std.specs.Prelude.{Some, None}
use Rattle.refusal.specs.Checks.{every}
use Rattle.refusal.proofs.Laws.{every_append}
use Rattle.submission_parts.specs.declared.Certificate.{Certificate as Numbers}
use Rattle.submission_parts.specs.declared.Commit.{Commit}
use Rattle.submission.specs.Trailer.{leader_count}
use Rattle.submission.specs.View.{Certificate}
use Rattle.submission.specs.Reading.{ballot_size, signers_at, certificate_at, certificate_end, certificates, certificates_end, commit_at, leaders_from, commit_of, view}
use Rattle.submission_parts.specs.Reader.{numbers_at, commit_numbers_at, reading}
use Rattle.submission_parts.specs.Commits.{commit_part}
use Rattle.submission_quorums.specs.Signers.{leader_masks}
use Rattle.submission.specs.Validate.{quorate, commit_signers, masks}
use Rattle.submission_parts.proofs.Commits.{absent-says, found-says}
use Rattle.submission.proofs.Certificates.{certificates-from, certificates-first, end-first}
use Rattle.submission_parts.proofs.Readings.{refused-passes, read-says}

-- ---- the leader certificates that are left, and whose answer is b

masks-first : (w S : ℕ) (s : List ℕ) (n left at : ℕ) → 0 < left
    → every (quorate n) (leader_masks w S s left at)
    ≡ cond (quorate n (signers_at s (at + ballot_size w))) (every (quorate n) (leader_masks w S s (left - 1) (certificate_end w S s at))) false
unfolding leader_masks certificate_at every
masks-first w S s n left at more =
    ap (λ (cs : List Certificate). every (quorate n) (map (λ c. c.signers) cs)) (certificates-first w S s left at more)

module _ (w S : ℕ) (s : List ℕ) (n left at end : ℕ) {b : Bool} (rest : every (quorate n) (leader_masks w S s left at) ≡ b) where
  module _ (more : 0 < left) (inside : certificates_end w S s left at ≤ end) where
    pub never-refused : reading w S s at end ≡ None → false ≡ b
    never-refused e =
        let first = end-first w S s left at more in
        absurd (omega (arith, refused-passes w S s at end e, certificates-from w S s (left - 1) (certificate_end w S s at)))

    module _ {c : Numbers} {next : ℕ} (told : reading w S s at end ≡ Some (c, next)) {r : Bool} (asked : r ≡ quorate n c.signers) where
      first-mask : cond r (every (quorate n) (leader_masks w S s (left - 1) next)) false ≡ b
      unfolding numbers_at
      first-mask =
          let says = read-says w S s at end told in
          rw (asked, says.0, says.1) (sym (masks-first w S s n left at more) ∙ rest)

      pub too_few : not r ≡ true → false ≡ b
      too_few e = rw (not-true r e) at first-mask

      pub enough : not r ≡ false
          → (certificates_end w S s (left - 1) next ≤ end) × (every (quorate n) (leader_masks w S s (left - 1) next) ≡ b)
      enough e =
          let says = read-says w S s at end told in
          (rw (says.1, ← end-first w S s left at more) inside, rw (not-false r e) at first-mask)

  pub all-enough : left ≤ 0 → true ≡ b
  unfolding leader_masks certificates every
  all-enough h = let none_left : left ≡ 0 = omega arith in rw none_left at rest

-- ---- every certificate

module _ (w S : ℕ) (s : List ℕ) (n : ℕ) where
  pub commit-signers : {c : Commit} {at : ℕ} → commit_part w S s ≡ Some (c, at) → quorate n c.signers ≡ every (quorate n) (commit_signers (commit_of w S s))
  unfolding commit_signers commit_numbers_at every
  commit-signers {c} {at} e =
      let says = found-says w S s e in
      rw (says.2, says.0) (one (quorate n (commit_at s at).signers))
    where
      one : (b : Bool) → b ≡ cond b true false
      one true = refl
      one false = refl

  pub no-signers : commit_part w S s ≡ None → true ≡ every (quorate n) (commit_signers (commit_of w S s))
  unfolding commit_signers every
  no-signers e = rw (absent-says w S s e)

  all-masks : every (quorate n) (masks (view w S s))
      ≡ cond (every (quorate n) (leader_masks w S s (leader_count s) (leaders_from w S s))) (every (quorate n) (commit_signers (commit_of w S s))) false
  unfolding masks view leader_masks
  all-masks = every_append (quorate n) _ _

  pub leaders-fail : every (quorate n) (leader_masks w S s (leader_count s) (leaders_from w S s)) ≡ false → false ≡ every (quorate n) (masks (view w S s))
  leaders-fail e = sym (rw e at all-masks)

  pub leaders-hold : every (quorate n) (leader_masks w S s (leader_count s) (leaders_from w S s)) ≡ true
      → every (quorate n) (commit_signers (commit_of w S s)) ≡ every (quorate n) (masks (view w S s))
  leaders-hold e = sym (rw e at all-masks)
