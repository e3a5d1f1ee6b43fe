-- Terms of a log in order, and which of two log ends is staler (document 01, "The report" and "Board rules").
use Rattle.std.specs.Prelude.{Bool, true, false, cond, List, [], ◌∷◌, ℕ, leb, ltb, eqb}
use Rattle.log_chain.specs.Log.{Record}

-- every term is at least `low` and not below the one before: with 1, terms above 0 that do not fall
unfoldable pub rising : ℕ → List Record → Bool
rising low [] = true
rising low (r ∷ log) = cond (leb low r.term) (rising r.term log) false

-- (t, i) is staler than (u, j): term compared first, then index
unfoldable pub staler : ℕ → ℕ → ℕ → ℕ → Bool
staler t i u j = cond (eqb t u) (ltb i j) (ltb t u)
