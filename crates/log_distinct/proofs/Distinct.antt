-- In a log whose terms do not fall there are as many distinct terms as runs: a term that was left does not come back.
-- Assumes nothing.
use mathlib.Core.Path.{◌≡◌, refl, sym, ap, ◌∙◌}
use mathlib.Core.Bool.{true, false, cond}
use mathlib.Core.List.{List, [], ◌∷◌, ◌++◌}
use mathlib.Core.Logic.{◌⊎◌, inl, inr}
use Prim.Native.Nat.{ℕ, suc, ◌<◌}
use native.Mathlib.Omega.{arith}
use borrow.Author.Tests.{eq-eqb, ne_eqb, eqb-true, eqb-false, leb-true}
use lib.Dec.{eqb, leb}
use lib.ListN.{length}
use Rattle.refusal.proofs.Laws.{look, cond-true}
use Rattle.log_chain.specs.Log.{Record, last_term}
use Rattle.log_chain.specs.Ends.{rising}
use Rattle.log_chain.specs.Runs.{run, runs_from, runs_after, runs}
use Rattle.log_chain.proofs.Order.{last_snoc}
use Rattle.log_distinct.specs.Distinct.{occurs, distinct}

-- terms above one that do not fall do not come back to it
absent : (t low : ℕ) (log : List Record) → t < low → rising low log ≡ true → occurs t log ≡ false
unfolding occurs rising
absent t low [] h e = refl
absent t low (r ∷ log) h e =
    let both = cond-true (leb low r.term) (rising r.term log) e in
    let above = leb-true low r.term both.0 in
    rw (ne_eqb r.term t (λ q. omega (arith, q, above, h))) (absent t r.term log (omega (arith, above, h)) both.1)

-- the runs from one whose last record is u
distinct_from : (log before upto : List Record) (u : Record) → u.term ≡ last_term upto → rising u.term log ≡ true
    → length (runs_from before upto log) ≡ distinct (u ∷ log)
unfolding runs_from distinct occurs rising
distinct_from [] before upto u h e = refl
distinct_from (r ∷ log) before upto u h e = go (look (eqb r.term (last_term upto)))
    (λ from. distinct_from log from (upto ++ (r ∷ [])) r (sym (last_snoc upto r)) both.1)
  where
    both : (leb u.term r.term ≡ true) × (rising r.term log ≡ true)
    both = cond-true (leb u.term r.term) (rising r.term log) e

    rest : ℕ
    rest = cond (occurs r.term log) (distinct log) (suc (distinct log))

    go : (eqb r.term (last_term upto) ≡ true) ⊎ (eqb r.term (last_term upto) ≡ false)
        → ((from : List Record) → length (runs_from from (upto ++ (r ∷ [])) log) ≡ rest)
        → length (cond (eqb r.term (last_term upto)) (runs_from before (upto ++ (r ∷ [])) log) (run before upto ∷ runs_from upto (upto ++ (r ∷ [])) log))
        ≡ cond (cond (eqb r.term u.term) true (occurs u.term log)) rest (suc rest)
    go (inl y) later = rw (y, eq-eqb r.term u.term (eqb-true _ _ y ∙ sym h)) (later before)
    go (inr n) later =
        let other : r.term ≡ u.term → ⊥ = λ q. eqb-false _ _ n (q ∙ h) in
        let above = leb-true u.term r.term both.0 in
        let gone = absent u.term r.term log (omega (arith, above, other)) both.1 in
        rw (n, ne_eqb r.term u.term other, gone) (ap suc (later upto))

pub distinct-runs : (log : List Record) → rising 1 log ≡ true → distinct log ≡ length (runs log)
unfolding runs runs_after rising distinct
distinct-runs [] e = refl
distinct-runs (r ∷ log) e =
    sym (distinct_from log [] ([] ++ (r ∷ [])) r (sym (last_snoc [] r)) (cond-true (leb 1 r.term) (rising r.term log) e).1)
