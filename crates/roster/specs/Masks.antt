-- Replicas as the ones among sixteen bits (document 01, "A submission, read from its trailer" and "The
-- report").
use Rattle.std.specs.Prelude.{Bool, cond, List, [], ◌∷◌, ℕ, zero, suc, ◌-◌, ◌/◌, ◌%◌, ◌^◌, eqb}

-- bit k - 1, counted from the lowest, is replica k
unfoldable pub signer : ℕ → ℕ → Bool
signer mask k = eqb (mask / 2 ^ (k - 1) % 2) 1

-- the replicas of a mask, rising
unfoldable pub replicas_from : ℕ → ℕ → ℕ → List ℕ
replicas_from zero k mask = []
replicas_from (suc bits) k mask =
    let later = replicas_from bits (suc k) (mask / 2) in
    cond (eqb (mask % 2) 1) (k ∷ later) later

unfoldable pub replicas_of : ℕ → List ℕ
replicas_of mask = replicas_from 16 1 mask
