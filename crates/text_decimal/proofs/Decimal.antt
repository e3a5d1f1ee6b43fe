-- The laws of decimal digits: of a number below 10, and of any other by a tenth of it; they are those that the
-- library writes.
-- Assumes nothing.
use mathlib.Core.Path.{◌≡◌, sym, ap, ◌∙◌}
use mathlib.Core.Bool.{true, false}
use mathlib.Core.List.{List, [], ◌∷◌, ◌++◌}
use mathlib.Core.Logic.{◌⊎◌, inl, inr, ⊎_elim}
use Prim.Native.Nat.{ℕ, zero, suc, ◌+◌, ◌/◌, ◌%◌, ◌^◌, ◌≤◌, ◌<◌}
use native.Mathlib.Nat.{pow-suc}
use native.Mathlib.Omega.{arith}
use borrow.Author.Tests.{ltb-true, ltb-false, lt-ltb, le-ltb}
use lib.Dec.{ltb}
use Rattle.std.proofs.lemmas.Fmt.{decimal_by_steps}
use Rattle.std.specs.Fmt.{decimal as text}
use Rattle.refusal.proofs.Laws.{look}
use Rattle.text_decimal.specs.Decimal.{digits, decimal}

-- ---- steps

-- with the last digit of n
abbrev ended : ℕ → List ℕ → List ℕ
ended n l = l ++ (48 + n % 10) ∷ []

digits_low : (f n : ℕ) → n < 10 → digits (suc f) n ≡ (48 + n) ∷ []
unfolding digits
digits_low f n h = rw (lt-ltb n 10 h)

digits_high : (f n : ℕ) → 10 ≤ n → digits (suc f) n ≡ digits f (n / 10) ++ (48 + n % 10) ∷ []
unfolding digits
digits_high f n h = rw (le-ltb n 10 h)

below_ten : (n : ℕ) → (n < 10) ⊎ (10 ≤ n)
below_ten n = ⊎_elim (λ (e : ltb n 10 ≡ true). inl (ltb-true n 10 e)) (λ (e : ltb n 10 ≡ false). inr (ltb-false n 10 e)) (look (ltb n 10))

-- more steps than the number change nothing
digits_enough : (f g n : ℕ) → n < f → n < g → digits f n ≡ digits g n
digits_enough zero g n hf hg = absurd (omega arith)
digits_enough (suc f) zero n hf hg = absurd (omega arith)
digits_enough (suc f) (suc g) n hf hg =
    ⊎_elim
    (λ (h : n < 10). digits_low f n h ∙ sym (digits_low g n h))
    (λ (h : 10 ≤ n).
    digits_high f n h ∙ ap (ended n) (digits_enough f g (n / 10) (omega arith) (omega arith)) ∙ sym (digits_high g n h))
    (below_ten n)

-- ---- decimal

pub decimal_low : (n : ℕ) → n < 10 → decimal n ≡ (48 + n) ∷ []
unfolding decimal
decimal_low n h = digits_low n n h

pub decimal_high : (n : ℕ) → 10 ≤ n → decimal n ≡ decimal (n / 10) ++ (48 + n % 10) ∷ []
unfolding decimal
decimal_high n h = digits_high n n h ∙ ap (ended n) (digits_enough n (suc (n / 10)) (n / 10) (omega arith) (omega arith))

-- as many steps as there are digits are enough
pub decimal-steps : (f n : ℕ) → n < 10 ^ suc f → decimal n ≡ digits (suc f) n
decimal-steps zero n h = decimal_low n (omega arith) ∙ sym (digits_low 0 n (omega arith))
decimal-steps (suc f) n h =
    ⊎_elim
    (λ (low : n < 10). decimal_low n low ∙ sym (digits_low (suc f) n low))
    (λ (high : 10 ≤ n).
    decimal_high n high
    ∙ ap (ended n) (decimal-steps f (n / 10) (tenth f n h))
    ∙ sym (digits_high (suc f) n high))
    (below_ten n)
  where
    tenth : (f n : ℕ) → n < 10 ^ suc (suc f) → n / 10 < 10 ^ suc f
    tenth f n h = let p = rw pow-suc at h in omega arith

-- ---- the library's text

-- it has the same digits
pub text-decimal : (n : ℕ) → n < 2 ^ 64 → text n ≡ decimal n
text-decimal n h =
    decimal_by_steps (λ (m : ℕ) (ds : List ℕ). ds ≡ decimal m)
    (λ m low. sym (decimal_low m low))
    (λ m ds high e. ap (ended m) e ∙ sym (decimal_high m high))
    n h
