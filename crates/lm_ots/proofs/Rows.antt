-- The ends of the chains one after the other.
-- Assumes nothing.
use mathlib.Core.Path.{◌≡◌, refl}
use mathlib.Core.List.{List, [], ◌++◌}
use Prim.Native.Nat.{ℕ, zero, suc, ◌+◌, ◌*◌, ◌/◌, ◌%◌, ◌^◌, ◌≤◌, ◌<◌}
use native.Mathlib.Numerals.{add-one}
use native.Mathlib.Omega.{arith}
use lib.ListN.{length, take}
use lib.Seq.{sets}
use Rattle.words.proofs.Laws.{take-sets}
use Rattle.lm_digits.specs.declared.Parameters.{Parameters}
use Rattle.lm_ots.specs.Candidate.{end, ends}
use Rattle.lm_chain_values.specs.Values.{value_at}

-- the first values of a buffer of words, one after the other
unfoldable pub joined : List ℕ → ℕ → List ℕ
joined v zero = []
joined v (suc i) = joined v i ++ value_at v i

-- one value more in a buffer of bytes
pub joined_step : (v out z : List ℕ) (i : ℕ) → z ≡ value_at v i → length z ≡ 32 → 32 * i + 32 ≤ length out
    → take (32 * i) out ≡ joined v i
    → take (32 * (i + 1)) (sets out (32 * i) z) ≡ joined v (i + 1)
unfolding joined
joined_step v out z i e long room t =
    let next : 32 * (i + 1) ≡ 32 * i + length z = omega arith in
    rw (next, take-sets out z (32 * i) (omega arith), t, e, add-one)

-- where they are the ends
pub joined-ends : (o : Parameters) (I : List ℕ) (q : ℕ) (s y v : List ℕ) (n : ℕ) → ((k : ℕ) → k < n → value_at v k ≡ end o I q s y k)
    → joined v n ≡ ends o I q s y n
unfolding joined ends
joined-ends o I q s y v zero h = refl
joined-ends o I q s y v (suc n) h = rw (joined-ends o I q s y v n (λ k l. h k (omega arith)), h n (omega arith))
