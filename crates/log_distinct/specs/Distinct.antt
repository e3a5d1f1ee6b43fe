-- The distinct terms of a log, also where they fall (document 01, "A submission, read from its trailer": "one
-- per distinct term of the log").
use Rattle.std.specs.Prelude.{Bool, true, false, cond, List, [], ◌∷◌, ℕ, suc, eqb}
use Rattle.log_chain.specs.Log.{Record}

-- whether one of some records has a term
unfoldable pub occurs : ℕ → List Record → Bool
occurs t [] = false
occurs t (r ∷ log) = cond (eqb r.term t) true (occurs t log)

-- the number of distinct terms
unfoldable pub distinct : List Record → ℕ
distinct [] = 0
distinct (r ∷ log) = cond (occurs r.term log) (distinct log) (suc (distinct log))
