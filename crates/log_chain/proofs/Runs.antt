-- The terms of a log: each run is a beginning of the log, each record is of a run that reaches as far, and above every number below the
-- last term there is a first run. By induction over the records that follow a run.
-- Assumes nothing.
use mathlib.Core.Path.{◌≡◌, refl, sym, ap, ◌∙◌}
use mathlib.Core.List.Memᴰ
use mathlib.Core.List.{List, [], ◌∷◌, ◌++◌, append-nil, Memᴰ}
use mathlib.Core.Logic.{◌⊎◌, inl, inr, ⊎_elim}
use Prim.Native.Nat.{ℕ, zero, suc, ◌+◌, ◌≤◌, ◌<◌, zero-le}
use native.Mathlib.Omega.{arith}
use borrow.Author.Tests.{eqb-true, eq-eqb, ne_eqb, ltb-true, ltb-false}
use lib.Dec.{eqb, ltb}
use lib.ListN.{length, take, length-append}
use lib.Seq.{append_snoc, take-append_seam, take_at}
use Rattle.refusal.proofs.Laws.{look}
use Rattle.log_chain.specs.Log.{Record, term_from, last_term}
use Rattle.log_chain.proofs.Order.{last_snoc}
use Rattle.log_chain.specs.Runs.{Run, run, runs_from, runs, runs_after}

-- ---- one record more

-- it goes on with the run, or begins another
pub next : (before upto : List Record) (s : Record) (rest : List Record)
    → ((s.term ≡ last_term upto) × (runs_from before upto (s ∷ rest) ≡ runs_from before (upto ++ (s ∷ [])) rest))
    ⊎ (runs_from before upto (s ∷ rest) ≡ run before upto ∷ runs_from upto (upto ++ (s ∷ [])) rest)
unfolding runs_from
next before upto s rest =
    ⊎_elim (λ e. inl (eqb-true _ _ e, rw e)) (λ e. inr (rw e)) (look (eqb s.term (last_term upto)))

pub alone : (before upto : List Record) → runs_from before upto [] ≡ run before upto ∷ []
unfolding runs_from
alone before upto = refl

-- a record of the run's term goes on with it; a record of another, or none, ends it
pub run_goes : (before upto : List Record) (s : Record) (rest : List Record) → s.term ≡ last_term upto
    → runs_from before upto (s ∷ rest) ≡ runs_from before (upto ++ (s ∷ [])) rest
unfolding runs_from
run_goes before upto s rest e = rw (eq-eqb _ _ e)

pub run_ends : (before upto : List Record) (s : Record) (rest : List Record) → (s.term ≡ last_term upto → ⊥)
    → runs_from before upto (s ∷ rest) ≡ run before upto ∷ runs_after upto (s ∷ rest)
unfolding runs_from runs_after
run_ends before upto s rest e = rw (ne_eqb _ _ e)

pub run-last : (before upto : List Record) → runs_from before upto [] ≡ run before upto ∷ runs_after upto []
unfolding runs_from runs_after
run-last before upto = refl

-- the run that has begun is among them
pub run_begun : (before upto rest : List Record) → 0 < length (runs_from before upto rest)
run_begun before upto [] = rw (alone before upto) (omega arith)
run_begun before upto (s ∷ rest) =
    ⊎_elim (λ e. rw e.1 (run_begun before (upto ++ (s ∷ [])) rest)) (λ e. rw e (omega arith)) (next before upto s rest)

-- ---- each run is a beginning of the log

begin_from : (before upto rest : List Record) (r : Run) → Memᴰ r (runs_from before upto rest)
    → take (length r.upto) (upto ++ rest) ≡ r.upto
unfolding run
begin_from before upto [] r m = rw (Memᴰ.eq_of_singleton (rw (alone before upto) at m)) (take-append_seam upto [])
begin_from before upto (s ∷ rest) r m =
    ⊎_elim
    (λ e. rw append_snoc at (begin_from before (upto ++ (s ∷ [])) rest r (rw e.1 at m)))
    (λ e.
    ⊎_elim
    (λ (h : r ≡ run before upto). rw h (take-append_seam upto (s ∷ rest)))
    (λ h. rw append_snoc at (begin_from upto (upto ++ (s ∷ [])) rest r h))
    (Memᴰ.cases_cons (rw e at m)))
    (next before upto s rest)

pub run-begins : (log : List Record) (r : Run) → Memᴰ r (runs log) → take (length r.upto) log ≡ r.upto
unfolding runs runs_after
run-begins [] r m = absurd (Memᴰ.not-nil m)
run-begins (s ∷ log) r m = begin_from [] (s ∷ []) log r m

-- ---- each record's run

-- a run of record i's term that reaches record i
pub record Reaches (log : List Record) (i : ℕ) (rs : List Run) : Type 0 where
  pub of : Run
  pub member : Memᴰ of rs
  pub term : last_term of.upto ≡ last_term (take i log)
  pub far : i ≤ length of.upto

-- the run's own last record
reach_own : (before upto rest : List Record) (rs : List Run) → Reaches (upto ++ rest) (length upto) (run before upto ∷ rs)
unfolding run
reach_own before upto rest rs =
    record {
      of = run before upto;
      member = Memᴰ.head refl;
      term = ap last_term (sym (take-append_seam upto rest));
      far = omega arith;
    }

reach_tail : (log : List Record) (i : ℕ) (r : Run) (rs : List Run) → Reaches log i rs → Reaches log i (r ∷ rs)
reach_tail log i r rs x = record { of = x.of; member = Memᴰ.tail x.member; term = x.term; far = x.far }

-- a record of the same term before it
reach_back : (upto rest : List Record) (s : Record) (rs : List Run) → s.term ≡ last_term upto
    → Reaches (upto ++ s ∷ rest) (suc (length upto)) rs → Reaches (upto ++ s ∷ rest) (length upto) rs
reach_back upto rest s rs e x =
    let longer : take (suc (length upto)) (upto ++ s ∷ rest) ≡ upto ++ (s ∷ []) =
    rw (← append_snoc) (take_at (upto ++ (s ∷ [])) rest (suc (length upto)) (omega (arith, length-append upto (s ∷ [])))) in
    record {
      of = x.of;
      member = x.member;
      term = x.term ∙ ap last_term longer ∙ last_snoc upto s ∙ e ∙ ap last_term (sym (take-append_seam upto (s ∷ rest)));
      far = omega (arith, x.far);
    }

-- the run's last record, from the next record's
reach_here : (before upto rest : List Record) (s : Record)
    → Reaches ((upto ++ (s ∷ [])) ++ rest) (length (upto ++ (s ∷ [])) + 0) (runs_from before (upto ++ (s ∷ [])) rest)
    → Reaches (upto ++ s ∷ rest) (length upto + 0) (runs_from before upto (s ∷ rest))
reach_here before upto rest s x =
    let here : length upto + 0 ≡ length upto = omega arith in
    let one : length (upto ++ (s ∷ [])) + 0 ≡ suc (length upto) = omega (arith, length-append upto (s ∷ [])) in
    rw here
    (⊎_elim
    (λ e. rw e.1 (reach_back upto rest s _ e.0 (rw (append_snoc, one) at x)))
    (λ e. rw e (reach_own before upto (s ∷ rest) _))
    (next before upto s rest))

-- a record after it
reach_later : (more : ℕ) (before upto rest : List Record) (s : Record)
    → ((from : List Record) → Reaches ((upto ++ (s ∷ [])) ++ rest) (length (upto ++ (s ∷ [])) + more) (runs_from from (upto ++ (s ∷ [])) rest))
    → Reaches (upto ++ s ∷ rest) (length upto + suc more) (runs_from before upto (s ∷ rest))
reach_later more before upto rest s x =
    let one : length (upto ++ (s ∷ [])) + more ≡ length upto + suc more = omega (arith, length-append upto (s ∷ [])) in
    ⊎_elim
    (λ e. rw e.1 (rw (append_snoc, one) at (x before)))
    (λ e. rw e (reach_tail _ _ _ _ (rw (append_snoc, one) at (x upto))))
    (next before upto s rest)

-- from the run's last record on: `more` records after it
reach_from : (more : ℕ) (before upto rest : List Record) → more ≤ length rest
    → Reaches (upto ++ rest) (length upto + more) (runs_from before upto rest)
reach_from more before upto [] h =
    let here : length upto + more ≡ length upto = omega arith in rw (here, alone before upto) (reach_own before upto [] [])
reach_from zero before upto (s ∷ rest) h = reach_here before upto rest s (reach_from 0 before (upto ++ (s ∷ [])) rest (omega arith))
reach_from (suc more) before upto (s ∷ rest) h =
    reach_later more before upto rest s (λ from. reach_from more from (upto ++ (s ∷ [])) rest (omega arith))

pub run_reaches : (log : List Record) (i : ℕ) → 0 < i → i ≤ length log → Reaches log i (runs log)
unfolding runs runs_after
run_reaches log zero p h = absurd (omega arith)
run_reaches [] (suc i) p h = absurd (omega arith)
run_reaches (s ∷ log) (suc i) p h =
    let one : 1 + i ≡ suc i = omega arith in rw one at (reach_from i [] (s ∷ []) log (omega arith))

-- ---- the first run above a term

-- after a log that is that of `start`, or another run's
pub record Crosses (start : List Record) (t : ℕ) (rs : List Run) : Type 0 where
  pub of : Run
  pub member : Memᴰ of rs
  pub above : t < last_term of.upto
  pub below : last_term of.before ≤ t
  pub after : (of.before ≡ start) ⊎ ((r : Run) × Memᴰ r rs × (r.upto ≡ of.before))

cross_own : (before upto : List Record) (t : ℕ) (rs : List Run) → last_term before ≤ t → t < last_term upto → Crosses before t (run before upto ∷ rs)
unfolding run
cross_own before upto t rs low high =
    record { of = run before upto; member = Memᴰ.head refl; above = high; below = low; after = inl refl }

cross_tail : (before upto : List Record) (t : ℕ) (rs : List Run) → Crosses upto t rs → Crosses before t (run before upto ∷ rs)
unfolding run
cross_tail before upto t rs x =
    record {
      of = x.of;
      member = Memᴰ.tail x.member;
      above = x.above;
      below = x.below;
      after =
          ⊎_elim
          (λ e. inr (run before upto, Memᴰ.head refl, sym e))
          (λ y. inr (y.0, Memᴰ.tail y.1, y.2))
          x.after;
    }

cross_from : (before upto rest : List Record) (t : ℕ) → last_term before ≤ t → t < last_term (upto ++ rest) → Crosses before t (runs_from before upto rest)
cross_from before upto [] t low high = rw (alone before upto) (cross_own before upto t [] low (rw append-nil at high))
cross_from before upto (s ∷ rest) t low high =
    let later : t < last_term ((upto ++ (s ∷ [])) ++ rest) = rw append_snoc high in
    ⊎_elim
    (λ e. rw e.1 (cross_from before (upto ++ (s ∷ [])) rest t low later))
    (λ e. rw e
    (⊎_elim
    (λ h. cross_own before upto t _ low (ltb-true _ _ h))
    (λ h. cross_tail before upto t _ (cross_from upto (upto ++ (s ∷ [])) rest t (ltb-false _ _ h) later))
    (look (ltb t (last_term upto)))))
    (next before upto s rest)

pub run_crosses : (log : List Record) (t : ℕ) → t < last_term log → Crosses [] t (runs log)
unfolding runs runs_after last_term term_from
run_crosses [] t h = absurd (omega arith)
run_crosses (s ∷ log) t h = cross_from [] (s ∷ []) log t zero-le h
