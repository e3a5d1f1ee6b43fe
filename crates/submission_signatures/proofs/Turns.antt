-- Leader certificates and stamps one after the other: what holds of those from a place on holds of the first and of those after it.
-- Assumes nothing.
use mathlib.Core.Path.{◌≡◌}
use mathlib.Core.Bool.{Bool, true, false, not, cond}
use mathlib.Core.List.{List, flat_map}
use Prim.Native.Nat.{ℕ, suc, ◌+◌, ◌-◌, ◌*◌, ◌^◌, ◌≤◌, ◌<◌}
use native.Mathlib.Nat.{suc-mul}
use native.Mathlib.Omega.{arith}
use borrow.Author.Tests.{not-true, not-false}
use lib.ListN.{length}
use Rattle.refusal.specs.Checks.{every}
use Rattle.refusal.proofs.Laws.{cond-true, every_append}
use Rattle.submission.specs.View.{Slot}
use Rattle.submission.specs.Reading.{ballot_size, signers_at, certificate_at, certificate_end, certificates, certificates_end}
use Rattle.submission_signatures.specs.Votes.{ballots}
use Rattle.submission_signatures.proofs.Quorate.{quorate_all}
use Rattle.submission.proofs.Certificates.{certificate-head, certificates-first, rest-inside, first-inside}
use Rattle.submission.proofs.Slots.{quorate_facts}

-- ---- the stamps that are left

pub stamps-room : (S : ℕ) (s : List ℕ) (left stamp : ℕ) → 0 < left → stamp + left * S ≤ length s → stamp + S + (left - 1) * S ≤ length s
stamps-room S s left stamp more h =
    let count : left ≡ suc (left - 1) = omega arith in
    let all : stamp + ((left - 1) * S + S) ≤ length s = rw (count, suc-mul) at h in
    omega arith

module _ (w S : ℕ) (s : List ℕ) where
  -- ---- the first of those that are left

  module _ (left at : ℕ) (more : 0 < left) where
    pub fields-room : certificates_end w S s left at ≤ length s → at + ballot_size w ≤ length s
    fields-room room = omega (arith, certificate-head w S s at, first-inside w S s left at more room)

    module _ (n : ℕ) (quorums : quorate_all n (certificates w S s left at) ≡ true) where
      both : (signers_at s (at + ballot_size w) < 2 ^ n) × (quorate_all n (certificates w S s (left - 1) (certificate_end w S s at)) ≡ true)
      unfolding quorate_all every certificate_at
      both =
          let p = cond-true _ _ (rw (certificates-first w S s left at more) at quorums) in
          ((quorate_facts n (signers_at s (at + ballot_size w)) p.0).1, p.1)

      pub first-signers : signers_at s (at + ballot_size w) < 2 ^ n
      first-signers = both.0

      pub rest-quorums : quorate_all n (certificates w S s (left - 1) (certificate_end w S s at)) ≡ true
      rest-quorums = both.1

    -- ---- their votes

    module _ (test : Slot → Bool) {b : Bool} (votes : every test (flat_map (ballots S) (certificates w S s left at)) ≡ b)
        {r : Bool} (asked : r ≡ every test (ballots S (certificate_at w s at))) where
      votes-first : cond r (every test (flat_map (ballots S) (certificates w S s (left - 1) (certificate_end w S s at)))) false ≡ b
      unfolding flat_map
      votes-first = rw asked (rw (certificates-first w S s left at more, every_append) at votes)

      pub votes-fail : not r ≡ true → false ≡ b
      votes-fail e = rw (not-true r e) at votes-first

      pub votes-next : not r ≡ false → every test (flat_map (ballots S) (certificates w S s (left - 1) (certificate_end w S s at))) ≡ b
      votes-next e = rw (not-false r e) at votes-first

  -- the fields of the next one lie inside
  pub next-fields : (left at : ℕ) → 1 < left → certificates_end w S s left at ≤ length s → certificate_end w S s at + ballot_size w ≤ length s
  next-fields left at more room =
      fields-room (left - 1) (certificate_end w S s at) (omega arith) (rest-inside w S s left at (omega arith) room)

  pub votes-done : (left at : ℕ) (test : Slot → Bool) {b : Bool} → every test (flat_map (ballots S) (certificates w S s left at)) ≡ b → left ≤ 0 → true ≡ b
  unfolding certificates flat_map every
  votes-done left at test votes h = let none : left ≡ 0 = omega arith in rw none at votes
