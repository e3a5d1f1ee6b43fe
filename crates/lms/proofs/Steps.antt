-- The claim on the chain steps holds of the service's answer. Either the chains are not reached, and there are no steps, or the steps are
-- those of the key's row for Q, of which `lm_digits` has the laws.
-- Assumes nothing.
use Rattle.std.specs.Prelude.{Option, Some, None}
use mathlib.Core.Path.{◌≡◌, refl, sym, ◌∙◌}
use mathlib.Core.Bool.{Bool, true, false, cond, false≢true}
use mathlib.Core.List.{List}
use mathlib.Core.Logic.{◌⊎◌, inl, inr, ⊎_elim}
use Prim.Native.Nat.{ℕ}
use native.Mathlib.Omega.{arith}
use lib.Dec.{eqb}
use lib.ListN.{length}
use Rattle.words.specs.BigEndian.{number_at}
use Rattle.refusal.proofs.Laws.{look}
use Rattle.sha256.specs.Service.{too_long}
use Rattle.lm_digits.specs.declared.Parameters.{Parameters}
use Rattle.lm_digits.specs.Parameters.{one_time, byte_digits}
use Rattle.lm_digits.specs.Digits.{steps}
use Rattle.lm_digits.proofs.Steps.{steps-le, steps-some, steps-bytes, steps-range}
use Rattle.lm_format.specs.Format.{height, key_size}
use Rattle.lm_format.specs.Formed.{formed}
use Rattle.lm_hash.specs.Tagged.{tagged}
use Rattle.lm_hash.proofs.Values.{length-digest}
use Rattle.lm_ots.specs.Candidate.{message_hash}
use Rattle.lm_answer.specs.declared.Answer.TheVariants.{Long}
use Rattle.lm_answer.specs.Number.{answer_steps}
use Rattle.lms.specs.Check.{hash_of, steps_taken, typed, good, steps_of, verdict, answer}
use Rattle.lms.specs.Steps.{reached, StepsCounted}

known-one : {o p : Parameters} → Some o ≡ Some p → o ≡ p
known-one {o} {p} e = cc

module _ (key message sig : List ℕ) where
  -- ---- no steps, or those of a row

  record Counted (n : ℕ) : Type 0 where
    o : Parameters
    known : one_time (number_at 4 key 4) ≡ Some o
    count : n ≡ steps o (hash_of key message sig)

  abbrev Told : Bool → ℕ → Type 0
  Told b n = ((b ≡ false) × (n ≡ 0)) ⊎ ((b ≡ true) × Counted n)

  typed-told : (a : Option Parameters) (t : Option ℕ) → one_time (number_at 4 key 4) ≡ a
      → Told (typed false (λ o h. formed o h key sig) a t) (typed 0 (λ o h. steps_taken o h key message sig) a t)
  unfolding typed steps_taken
  typed-told None t e = inl (refl, refl)
  typed-told (Some o) None e = inl (refl, refl)
  typed-told (Some o) (Some h) e =
      ⊎_elim
      (λ f. inr (f, record { o = o; known = e; count = rw f }))
      (λ f. inl (f, rw f))
      (look (formed o h key sig))

  length-told : (c : Bool) {b : Bool} {n : ℕ} → Told b n → Told (cond c b false) (cond c n 0)
  length-told true t = t
  length-told false t = inl (refl, refl)

  -- a bad signature has its steps as a good one has
  verdict-steps : (g : Bool) (n : ℕ) → answer_steps (verdict g key sig n) ≡ n
  unfolding verdict
  verdict-steps true n = refl
  verdict-steps false n = refl

  answer-told : (c g : Bool) {b : Bool} {n : ℕ} → Told b n → Told (cond c false b) (answer_steps (cond c Long (verdict g key sig n)))
  answer-told true g t = inl (refl, refl)
  answer-told false g {b} {n} t = rw (verdict-steps g n) t

  told : Told (reached key message sig) (answer_steps (answer key message sig))
  unfolding reached answer steps_of
  told =
      answer-told (too_long message) (good key message sig)
      (length-told (eqb (length key) key_size) (typed-told (one_time (number_at 4 key 4)) (height (number_at 4 key 0)) refl))

  -- ---- the claim

  length-hash : length (hash_of key message sig) ≡ 32
  unfolding hash_of message_hash tagged
  length-hash = length-digest _

  module _ {n : ℕ} (t : Told (reached key message sig) n) where
    counted : reached key message sig ≡ true → Counted n
    counted e = ⊎_elim (λ h. absurd (false≢true (sym h.0 ∙ e))) (λ h. h.1) t

    bytes_counted : reached key message sig ≡ true → one_time (number_at 4 key 4) ≡ Some byte_digits
        → n ≡ steps byte_digits (hash_of key message sig)
    bytes_counted e k = let c = counted e in rw (← known-one (sym c.known ∙ k)) c.count

    claimed : StepsCounted key message sig n
    claimed =
        record {
          none = λ e. ⊎_elim (λ h. h.1) (λ h. absurd (false≢true (sym e ∙ h.0))) t;
          some = λ e.
              let c = counted e in
              rw c.count (steps-some c.o (record { number = number_at 4 key 4; found = c.known }) _ length-hash);
          bytes = λ e k. bytes_counted e k ∙ steps-bytes _ length-hash;
          range = λ e k. rw (bytes_counted e k) (steps-range _ length-hash);
          most = λ o k.
              ⊎_elim
              (λ h. rw h.1 (omega arith))
              (λ h.
              let c = h.1 in
              rw (c.count, known-one (sym c.known ∙ k)) (steps-le o (hash_of key message sig)))
              t;
        }

  pub steps-counted : StepsCounted key message sig (answer_steps (answer key message sig))
  steps-counted = claimed told
