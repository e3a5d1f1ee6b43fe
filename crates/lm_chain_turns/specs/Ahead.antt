-- The steps that are left of a chain (RFC 8554, 4.6, algorithm 4b, step 3).
use Rattle.std.specs.Prelude.{List, ℕ, ◌-◌, get_or}
use Rattle.lm_chain.specs.Chain.{chain}
use Rattle.lm_chain_values.specs.Values.{value_at}

-- the end that chain k comes to from its value and from its next step, where the last step is the one before
-- `last`
unfoldable pub ahead : List ℕ → ℕ → ℕ → List ℕ → List ℕ → ℕ → List ℕ
ahead I q last steps v k = chain I q k (last - get_or steps k 0) (get_or steps k 0) (value_at v k)
