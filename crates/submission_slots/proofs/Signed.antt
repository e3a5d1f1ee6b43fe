-- The signatures of a certificate one after the other: a bad one gives the answer, and so do the others where it is good.
-- Assumes nothing.
use mathlib.Core.Path.{◌≡◌, refl, sym, ◌∙◌}
use mathlib.Core.Bool.{Bool, true, false, not, cond}
use mathlib.Core.List.{List, [], ◌∷◌}
use Prim.Native.Nat.{ℕ, zero, suc, ◌+◌, ◌-◌, ◌*◌, ◌/◌, ◌%◌, ◌^◌, ◌≤◌, ◌<◌}
use native.Mathlib.Nat.{mul-suc, pow-suc, div-one, div-div-eq-div-mul}
use native.Mathlib.Numerals.{add-one}
use native.Mathlib.Omega.{arith}
use borrow.Author.Tests.{not-true, not-false, le-ltb, eq-eqb, ne_eqb, eqb-true, eqb-false}
use lib.Dec.{eqb}
use lib.Count.{ones, ones_step}
use lib.ListN.{length, take, drop}
use lib.Seq.{drop-drop}
use Rattle.refusal.specs.Checks.{every}
use Rattle.sha256.specs.Service.{limit, too_long}
use Rattle.lm_answer.specs.declared.Answer.TheVariants.{Good, Bad, Long}
use Rattle.lms.specs.Check.{good, steps_of, verdict, answer}
use Rattle.roster.specs.Roster.{key_of}
use Rattle.roster.specs.Masks.{signer, replicas_from, replicas_of}
use Rattle.log_chain.specs.Log.{Form}
use Rattle.log_chain.specs.Claim.{Claim, say}
use Rattle.submission.specs.View.{certified, slot}
use Rattle.submission.specs.Validate.{genuine}
use Rattle.submission_slots.specs.Signatures.{good_all}

-- ---- one signature

-- the check's answer on a message that is not too long says good or bad
module _ (key message sig : List ℕ) (short : length message ≤ limit) where
  short-answer : answer key message sig ≡ verdict (good key message sig) key sig (steps_of key message sig)
  unfolding answer too_long
  short-answer = rw (le-ltb _ _ short)

  pub is-good : {leaf steps : ℕ} → answer key message sig ≡ Good leaf steps → true ≡ good key message sig
  unfolding verdict
  is-good {leaf} {steps} e = go (good key message sig) (sym short-answer ∙ e)
    where
      go : (b : Bool) → verdict b key sig (steps_of key message sig) ≡ Good leaf steps → true ≡ b
      go true e = refl
      go false e = let z : ◌≡◌ {A = ℕ} 0 1 = cc in absurd (omega arith)

  pub is-bad : {steps : ℕ} → answer key message sig ≡ Bad steps → false ≡ good key message sig
  unfolding verdict
  is-bad {steps} e = go (good key message sig) (sym short-answer ∙ e)
    where
      go : (b : Bool) → verdict b key sig (steps_of key message sig) ≡ Bad steps → false ≡ b
      go true e = let z : ◌≡◌ {A = ℕ} 0 1 = cc in absurd (omega arith)
      go false e = refl

  pub not-long : answer key message sig ≡ Long → ⊥
  unfolding verdict
  not-long e = go (good key message sig) (sym short-answer ∙ e)
    where
      go : (b : Bool) → verdict b key sig (steps_of key message sig) ≡ Long → ⊥
      go true e = let z : ◌≡◌ {A = ℕ} 0 1 = cc in omega arith
      go false e = let z : ◌≡◌ {A = ℕ} 0 1 = cc in omega arith

-- ---- those of one certificate

-- each of them is its slot's
pub good_all-certified : (form : Form) (roster : List ℕ) (S : ℕ) (claim : Claim) (ks bytes : List ℕ)
    → good_all roster (say form claim) S ks bytes ≡ every (genuine form roster) (certified S claim ks bytes)
unfolding good_all every certified genuine slot
good_all-certified form roster S claim [] bytes = refl
good_all-certified form roster S claim (k ∷ ks) bytes = rw (good_all-certified form roster S claim ks (drop S bytes))

-- the replicas that are left after the first k, for the bits that are left, whose signatures begin at a place
module _ (roster message : List ℕ) (S : ℕ) (s : List ℕ) where
  unfoldable pub good_from : ℕ → ℕ → ℕ → Bool
  good_from k rest from = good_all roster message S (replicas_from (16 - k) (suc k) rest) (drop from s)

  pub good_from-all : (mask at : ℕ) → good_from 0 mask at ≡ good_all roster message S (replicas_of mask) (drop at s)
  unfolding good_from replicas_of
  good_from-all mask at = refl

  module _ (k rest from : ℕ) {b : Bool} (left : good_from k rest from ≡ b) where
    module _ (more : k < 16) where
      bits : 16 - k ≡ suc (16 - (k + 1))
      bits = omega arith

      pub absent : (rest % 2 ≡ 1 → ⊥) → good_from (k + 1) (rest / 2) from ≡ b
      unfolding good_from replicas_from
      absent e = rw add-one (rw (bits, ne_eqb _ _ e, add-one) at left)

      module _ (odd : rest % 2 ≡ 1) {r : Bool} (asked : r ≡ good (key_of roster (k + 1)) message (take S (drop from s))) where
        first : cond r (good_from (k + 1) (rest / 2) (from + S)) false ≡ b
        unfolding good_from replicas_from good_all
        first = rw (asked, add-one) (rw (bits, eq-eqb _ _ odd, drop-drop, add-one) at left)

        pub wrong : not r ≡ true → false ≡ b
        wrong e = rw (not-true r e) at first

        pub right : not r ≡ false → good_from (k + 1) (rest / 2) (from + S) ≡ b
        right e = rw (not-false r e) at first

    pub none_left : 16 ≤ k → true ≡ b
    unfolding good_from replicas_from good_all
    none_left h = let none : 16 - k ≡ 0 = omega arith in rw none at left

-- ---- the bits of a mask that are left

pub all_bits : (mask : ℕ) → mask / 2 ^ 0 ≡ mask
all_bits mask = div-one mask

pub next_bits : (mask k : ℕ) → mask / 2 ^ (k + 1) ≡ mask / 2 ^ k / 2
next_bits mask k = rw (add-one, pow-suc, div-div-eq-div-mul)

module _ (mask k : ℕ) {b : Bool} (asked : b ≡ signer mask (k + 1)) where
  bit : b ≡ eqb (mask / 2 ^ k % 2) 1
  unfolding signer
  bit = let place : k + 1 - 1 ≡ k = omega arith in rw place at asked

  pub is_one : b ≡ true → mask / 2 ^ k % 2 ≡ 1
  is_one e = eqb-true (mask / 2 ^ k % 2) 1 (sym bit ∙ e)

  pub no_one : b ≡ false → mask / 2 ^ k % 2 ≡ 1 → ⊥
  no_one e = eqb-false (mask / 2 ^ k % 2) 1 (sym bit ∙ e)

-- ---- the replicas of a mask of n bits are at most n, and their signatures lie inside

pub replica-inside : (n k rest : ℕ) → rest < 2 ^ (n - k) → rest % 2 ≡ 1 → k + 1 ≤ n
replica-inside n k rest h e = go (n - k) refl h
  where
    go : (d : ℕ) → n - k ≡ d → rest < 2 ^ d → k + 1 ≤ n
    go zero p q = absurd (omega arith)
    go (suc d) p q = omega arith

pub half_inside : (n k rest : ℕ) → rest < 2 ^ (n - k) → rest / 2 < 2 ^ (n - (k + 1))
half_inside n k rest h = go (n - k) refl h
  where
    go : (d : ℕ) → n - k ≡ d → rest < 2 ^ d → rest / 2 < 2 ^ (n - (k + 1))
    go zero p q = let none : n - (k + 1) ≡ 0 = omega arith in rw none (omega arith)
    go (suc d) p q =
        let one : n - (k + 1) ≡ d = omega arith in
        let wide : rest < 2 ^ d * 2 = rw pow-suc at q in
        rw one (omega arith)

pub room-one : (S rest from room : ℕ) → rest % 2 ≡ 1 → from + S * ones rest ≤ room → from + S + S * ones (rest / 2) ≤ room
room-one S rest from room e h =
    let count : ones rest ≡ suc (ones (rest / 2)) = omega (arith, ones_step rest) in
    let all : from + (S * ones (rest / 2) + S) ≤ room = rw (count, mul-suc) at h in
    omega arith

pub room-none : (S rest from room : ℕ) → (rest % 2 ≡ 1 → ⊥) → from + S * ones rest ≤ room → from + S * ones (rest / 2) ≤ room
room-none S rest from room e h =
    let count : ones rest ≡ ones (rest / 2) = omega (arith, ones_step rest, e) in
    rw count at h
