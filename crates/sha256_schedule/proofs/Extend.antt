-- One more word of the message schedule: what a turn of the loop that fills the array keeps.
-- Assumes nothing.
use Rattle.std.proofs.Common.{◌≡◌, ℕ, suc, ◌+◌, ◌-◌, ◌<◌, ◌≤◌, List, length, take, set, add-one, arith, get_or-take, take-suc-set}
use Rattle.sha256_schedule.specs.Words.{next_word, extend}

-- the next word looks only at words before it
next_take : (w : List ℕ) (i : ℕ) → 16 ≤ i → next_word (take i w) i ≡ next_word w i
unfolding next_word
next_take w i h =
    rw (
      get_or-take i w (i - 2) 0 (omega arith),
      get_or-take i w (i - 7) 0 (omega arith),
      get_or-take i w (i - 15) 0 (omega arith),
      get_or-take i w (i - 16) 0 (omega arith),
    )

pub extend_step : (w m : List ℕ) (i : ℕ) → 16 ≤ i → i < length w → take i w ≡ extend (i - 16) m
    → take (i + 1) (set w i (next_word w i)) ≡ extend (i + 1 - 16) m
unfolding extend
extend_step w m i low high e =
    let count : i + 1 - 16 ≡ suc (i - 16) = omega arith in
    let place : 16 + (i - 16) ≡ i = omega arith in
    rw (add-one, take-suc-set w i (next_word w i) high, ← add-one, count, place, ← e, next_take w i low)
