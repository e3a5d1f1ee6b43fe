-- Where two logs differ (document 01, "The report": "in term or payload digest").
use Rattle.std.specs.Prelude.{Bool, true, false, cond, List, [], ◌∷◌, ℕ, suc, eqb}
use Rattle.words.specs.BigEndian.{same}
use Rattle.log_chain.specs.Log.{Record}

unfoldable pub same_record : Record → Record → Bool
same_record r s = cond (eqb r.term s.term) (same r.digest s.digest) false

-- the two logs do not differ in records 1 to the lower of their lengths
unfoldable pub agree : List Record → List Record → Bool
agree [] m = true
agree (r ∷ l) [] = true
agree (r ∷ l) (s ∷ m) = cond (same_record r s) (agree l m) false

-- the lowest index, from i on, whose records differ; 0 if none
unfoldable pub differ_at : ℕ → List Record → List Record → ℕ
differ_at i [] m = 0
differ_at i (r ∷ l) [] = 0
differ_at i (r ∷ l) (s ∷ m) = cond (same_record r s) (differ_at (suc i) l m) i
