-- Lengths taken one after the other from what is left: what remains adds up to what is left just where all add up to the whole.
-- Assumes nothing.
use mathlib.Core.Path.{◌≡◌, refl, sym, ◌∙◌}
use mathlib.Core.Bool.{true, false}
use mathlib.Core.List.{List, sum}
use mathlib.Core.Logic.{⊎_elim}
use Prim.Native.Nat.{ℕ, zero, suc, ◌+◌, ◌-◌, ◌≤◌, ◌<◌}
use native.Mathlib.Omega.{arith}
use borrow.Author.Tests.{eq-eqb, ne_eqb, eqb-true, eqb-false}
use lib.Dec.{eqb}
use lib.ListN.{length, drop, get_or, drop_of_length-le}
use lib.Seq.{drop-cons}
use Rattle.refusal.proofs.Laws.{look}
use Rattle.district_parts.specs.Parts.{total}

pub sum_step : (sizes : List ℕ) (i : ℕ) → i < length sizes → total (drop i sizes) ≡ get_or sizes i 0 + total (drop (suc i) sizes)
unfolding total sum
sum_step sizes i h = rw (drop-cons sizes i 0 h)

-- a length that is more than what is left
pub too_long_lem : (sizes : List ℕ) (i left : ℕ) → i < length sizes → left < get_or sizes i 0 → eqb (total (drop i sizes)) left ≡ false
too_long_lem sizes i left h more = ne_eqb _ left (λ e. omega (arith, sum_step sizes i h, e, more))

-- and one that is not
pub taken : (sizes : List ℕ) (i left : ℕ) → i < length sizes → get_or sizes i 0 ≤ left
    → eqb (total (drop (suc i) sizes)) (left - get_or sizes i 0) ≡ eqb (total (drop i sizes)) left
taken sizes i left h less =
    let step = sum_step sizes i h in
    let rest = total (drop (suc i) sizes) in
    ⊎_elim
    (λ (e : eqb rest (left - get_or sizes i 0) ≡ true). e ∙ sym (eq-eqb _ left (omega (arith, step, less, eqb-true rest _ e))))
    (λ e. e ∙ sym (ne_eqb _ left (λ d. eqb-false rest _ e (omega (arith, step, less, d)))))
    (look (eqb rest (left - get_or sizes i 0)))

-- after the last one nothing must be left
turned : (n : ℕ) → eqb n 0 ≡ eqb 0 n
turned zero = refl
turned (suc n) = ne_eqb (suc n) 0 (λ e. omega arith) ∙ sym (ne_eqb 0 (suc n) (λ e. omega arith))

pub all-taken : (sizes : List ℕ) (i left : ℕ) → length sizes ≤ i → eqb left 0 ≡ eqb (total (drop i sizes)) left
unfolding total sum
all-taken sizes i left h = rw (drop_of_length-le sizes h) (turned left)
