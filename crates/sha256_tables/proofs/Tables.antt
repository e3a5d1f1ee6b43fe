-- The tables of constants follow their rules: antt computes one test over each whole table, and a law turns the test
-- into the rule at each entry. The same law, that a test passes at each number below a bound, serves trial division.
-- Assumes nothing.
use mathlib.Core.Path.{◌≡◌, refl}
use mathlib.Core.Bool.{Bool, true, false, not, cond}
use mathlib.Core.List.{List, [], ◌∷◌}
use mathlib.Core.Logic.{◌↔◌, ⊎_elim}
use Prim.Native.Nat.{ℕ, zero, suc, ◌+◌, ◌*◌, ◌%◌, ◌^◌, ◌<◌}
use native.Mathlib.Nat.{eq-or-lt_of_le, le_of_suc-le-suc, not-suc-le-zero}
use native.Mathlib.Omega.{arith}
use lib.Dec.{T, T_not, not_T, leb, ltb, eqb, leb→le, ltb→lt, lt→ltb, eqb→eq}
use lib.ListN.{length, get_or}
use Rattle.sha256_tables.specs.Constants.{constants, initial_words, primes, Prime, PrimesFrom, RootFraction, RootTable, FirstPrimes, CubeRoots, SquareRoots}

-- as _&&_, but shut, so that antt finds the tests in a claim T (a and b)
infixr 35 ◌and◌
◌and◌ : Bool → Bool → Bool
true and b = b
false and b = false

both : (a b : Bool) → T (a and b) ↔ (T a × T b)
unfolding ◌and◌
both true b = (λ t. (tt, t), λ h. h.1)
both false b = (λ t. absurd t, λ h. h.0)

-- the test f passes at each number below n
every : (ℕ → Bool) → ℕ → Bool
every f zero = true
every f (suc n) = f n and every f n

each : (f : ℕ → Bool) (n : ℕ) → T (every f n) ↔ ((k : ℕ) → k < n → T (f k))
unfolding every
each f zero = (λ t k h. absurd (not-suc-le-zero h), λ h. tt)
each f (suc n) = (
  λ t k h. let s = (both (f n) (every f n)).0 t in
      ⊎_elim (λ e. rw e s.0) ((each f n).0 s.1 k) (eq-or-lt_of_le (le_of_suc-le-suc h)),
  λ h. (both (f n) (every f n)).1 (h n (omega arith), (each f n).1 (λ k l. h k (omega arith))),
)

-- trial division
divides : ℕ → ℕ → Bool
divides p d = ltb 1 d and eqb (p % d) 0

divisor : (p d : ℕ) → T (divides p d) ↔ ((1 < d) × (p % d ≡ 0))
unfolding divides
divisor p d = (
  λ t. let s = (both _ _).0 t in (ltb→lt 1 d s.0, eqb→eq (p % d) 0 s.1),
  λ h. (both (ltb 1 d) (eqb (p % d) 0)).1 (lt→ltb 1 d h.0, rw h.1 tt),
)

is_prime : ℕ → Bool
is_prime p = ltb 1 p and every (λ d. not (divides p d)) p

is_prime_lem : (p : ℕ) → T (is_prime p) ↔ Prime p
unfolding is_prime
is_prime_lem p = (
  λ t. let s = (both _ _).0 t in
      record {
        above-one = ltb→lt 1 p s.0;
        no-divisor = λ d low high e. T_not (divides p d) ((each _ p).0 s.1 d high) ((divisor p d).1 (low, e));
      },
  λ h. (both _ _).1 (
    lt→ltb 1 p h.above-one,
    (each _ p).1
        (λ d high. not_T (divides p d) (λ t. let s = (divisor p d).0 t in h.no-divisor d s.0 high s.1)),
  ),
)

-- the primes among the next numbers from n
primes_from : ℕ → ℕ → List ℕ
primes_from zero n = []
primes_from (suc count) n = let rest = primes_from count (suc n) in cond (is_prime n) (n ∷ rest) rest

primes_from_lem : (count n : ℕ) → PrimesFrom n (primes_from count n)
unfolding primes_from
primes_from_lem zero n = PrimesFrom.done
primes_from_lem (suc count) n = add (is_prime n) (is_prime_lem n) (primes_from_lem count (suc n))
  where
    add : (b : Bool) → T b ↔ Prime n → {ps : List ℕ} → PrimesFrom (suc n) ps → PrimesFrom n (cond b (n ∷ ps) ps)
    add true h rest = PrimesFrom.keep (h.0 tt) rest
    add false h rest = PrimesFrom.skip h.1 rest

pub first-primes : FirstPrimes
unfolding FirstPrimes primes primes_from is_prime divides every ◌and◌
first-primes = (refl, primes_from_lem 312 0)

-- the largest number up to r whose power is at most p
whole_root : ℕ → ℕ → ℕ → ℕ
whole_root degree p zero = zero
whole_root degree p (suc r) = cond (leb (suc r ^ degree) p) (suc r) (whole_root degree p r)

is_root : ℕ → ℕ → ℕ → Bool
is_root degree p k =
    let root = whole_root degree p p * 2 ^ 32 + k in
    ltb k (2 ^ 32) and leb (root ^ degree) (p * (2 ^ 32) ^ degree) and ltb (p * (2 ^ 32) ^ degree) ((root + 1) ^ degree)

is_root_lem : (degree p k : ℕ) → T (is_root degree p k) → RootFraction degree p k
unfolding is_root
is_root_lem degree p k t =
    let s = (both _ _).0 t in
    let u = (both _ _).0 s.1 in
    record { whole = whole_root degree p p; word = ltb→lt _ _ s.0; below = leb→le _ _ u.0; above = ltb→lt _ _ u.1 }

is_root_table : ℕ → List ℕ → Bool
is_root_table degree table = every (λ t. is_root degree (get_or primes t 0) (get_or table t 0)) (length table)

root_table : (degree : ℕ) (table : List ℕ) → T (is_root_table degree table) → RootTable degree (length table) table
unfolding is_root_table RootTable
root_table degree table all = (refl, λ t h. is_root_lem degree _ _ ((each _ (length table)).0 all t h))

pub cube_roots : CubeRoots
unfolding CubeRoots constants primes is_root_table is_root whole_root every ◌and◌
cube_roots = root_table 3 constants tt

pub square_roots : SquareRoots
unfolding SquareRoots initial_words primes is_root_table is_root whole_root every ◌and◌
square_roots = root_table 2 initial_words tt
