-- A test of each replica from 1 to n: it held of each, or it failed of one.
-- Assumes nothing.
use mathlib.Core.Path.{◌≡◌, refl, sym, ◌∙◌}
use mathlib.Core.Bool.{Bool, true, false, cond, false≢true}
use mathlib.Core.Logic.{⊎_elim}
use Prim.Native.Nat.{ℕ, zero, suc, ◌≤◌, ◌<◌}
use native.Mathlib.Omega.{arith}
use borrow.Author.Tests.{leb-true, leb-false}
use lib.Dec.{leb}
use Rattle.refusal.proofs.Laws.{look, cond-true}
use Rattle.roster.specs.Roster.{every_replica}

-- where it holds of all of them, it holds of each
pub every_each : (n : ℕ) (test : ℕ → Bool) → every_replica n test ≡ true → (k : ℕ) → 0 < k → k ≤ n → test k ≡ true
unfolding every_replica
every_each zero test e k low high = absurd (omega arith)
every_each (suc n) test e k low high =
    let p = cond-true (test (suc n)) (every_replica n test) e in
    ⊎_elim
    (λ h. every_each n test p.1 k low (leb-true k n h))
    (λ h. let last : k ≡ suc n = omega (arith, leb-false k n h) in rw last p.0)
    (look (leb k n))

module _ (test : ℕ → Bool) where
  pub each_held : (n : ℕ) → ((k : ℕ) → 0 < k → k ≤ n → true ≡ test k) → true ≡ every_replica n test
  unfolding every_replica
  each_held zero h = refl
  each_held (suc n) h = rw (← h (suc n) (omega arith) (omega arith)) (each_held n (λ k low high. h k low (omega arith)))

  pub one_failed : (n k : ℕ) → 0 < k → k ≤ n → false ≡ test k → false ≡ every_replica n test
  one_failed n k low high e =
      ⊎_elim
      (λ h. absurd (false≢true (e ∙ every_each n test h k low high)))
      (λ h. sym h)
      (look (every_replica n test))
