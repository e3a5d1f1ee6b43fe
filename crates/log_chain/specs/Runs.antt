-- The terms of a log, one after the other (document 01, "A submission, read from its trailer": "one per
-- distinct term of the log, in log order").
use Rattle.std.specs.Prelude.{cond, List, [], ◌∷◌, ◌++◌, eqb}
use Rattle.log_chain.specs.Log.{Record, last_term}

-- one term: the log before its first record, and the log up to its last
pub record Run : Type 0 where
  pub before : List Record
  pub upto : List Record

unfoldable pub run : List Record → List Record → Run
run before upto = record { before = before; upto = upto }

-- the runs from one that began after `before` and has come to `upto`, with the records that follow
unfoldable pub runs_from : List Record → List Record → List Record → List Run
runs_from before upto [] = run before upto ∷ []
runs_from before upto (r ∷ log) =
    let longer = upto ++ (r ∷ []) in
    cond (eqb r.term (last_term upto))
    (runs_from before longer log)
    (run before upto ∷ runs_from upto longer log)

-- the runs of the records that follow a log
unfoldable pub runs_after : List Record → List Record → List Run
runs_after before [] = []
runs_after before (r ∷ log) = runs_from before (before ++ (r ∷ [])) log

-- the distinct terms of a log whose terms do not fall, in log order
unfoldable pub runs : List Record → List Run
runs log = runs_after [] log
