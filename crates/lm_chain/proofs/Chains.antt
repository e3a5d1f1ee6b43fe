-- Steps of a chain in runs are its steps in one.
-- Assumes nothing.
use mathlib.Core.Path.{◌≡◌}
use mathlib.Core.List.{List}
use Prim.Native.Nat.{ℕ, zero, suc, ◌+◌}
use native.Mathlib.Nat.{zero-add, add-zero, add-suc, suc-add}
use Rattle.lm_chain.specs.Chain.{stepped, chain}

pub chain-add : (I : List ℕ) (q i m n j : ℕ) (t : List ℕ) → chain I q i (m + n) j t ≡ chain I q i n (j + m) (chain I q i m j t)
unfolding chain
chain-add I q i zero n j t = rw (zero-add, add-zero)
chain-add I q i (suc m) n j t =
    rw (suc-add, add-suc, ← suc-add j m) (chain-add I q i m n (suc j) (stepped I q j i t))

-- one step more
pub chain-last : (I : List ℕ) (q i m j : ℕ) (t : List ℕ) → chain I q i (m + 1) j t ≡ stepped I q (j + m) i (chain I q i m j t)
unfolding chain
chain-last I q i m j t = chain-add I q i m 1 j t
