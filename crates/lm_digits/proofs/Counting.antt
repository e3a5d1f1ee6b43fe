-- Claims on all numbers below a count.
-- Assumes nothing.
use mathlib.Core.List.{List, [], ◌∷◌}
use mathlib.Core.Logic.{⊎_elim}
use Prim.Native.Nat.{ℕ, zero, suc, ◌+◌, ◌≤◌, ◌<◌}
use native.Mathlib.Nat.{eq-or-lt_of_le}
use native.Mathlib.Omega.{arith}
use lib.ListN.{get_or, set, replicate}

-- one number more
pub one_more : (P : ℕ → Type 0) (i : ℕ) → ((k : ℕ) → k < i → P k) → P i → (k : ℕ) → k < i + 1 → P k
one_more P i h p k l =
    let le : k ≤ i = omega arith in
    ⊎_elim (λ e. rw e p) (λ m. h k m) (eq-or-lt_of_le le)

-- ---- numbers that are all below a bound

pub all_set : (n : ℕ) (w : List ℕ) (i z : ℕ) → z < n → ((k : ℕ) → get_or w k 0 < n) → (k : ℕ) → get_or (set w i z) k 0 < n
all_set n [] i z h all k = all k
all_set n (x ∷ xs) zero z h all zero = h
all_set n (x ∷ xs) zero z h all (suc k) = all (suc k)
all_set n (x ∷ xs) (suc i) z h all zero = all zero
all_set n (x ∷ xs) (suc i) z h all (suc k) = all_set n xs i z h (λ m. all (suc m)) k

pub all-zero : (n m : ℕ) → 0 < m → (k : ℕ) → get_or (replicate n 0) k 0 < m
all-zero zero m h k = h
all-zero (suc n) m h zero = h
all-zero (suc n) m h (suc k) = all-zero n m h k
