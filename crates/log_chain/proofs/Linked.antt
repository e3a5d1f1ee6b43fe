-- The terms of a log follow one another: each begins where the one before ends, and the last ends with the log.
-- Assumes nothing.
use mathlib.Core.Path.{◌≡◌, refl, sym, subst}
use mathlib.Core.List.Memᴰ
use mathlib.Core.List.{List, [], ◌∷◌, ◌++◌, append-nil, Memᴰ}
use mathlib.Core.Logic.{⊎_elim}
use lib.ListN.{length, take}
use lib.Seq.{append_snoc}
use Rattle.log_chain.specs.Log.{Record}
use Rattle.log_chain.specs.Runs.{Run, run, runs_from, runs_after, runs}
use Rattle.log_chain.proofs.Runs.{next, alone, run-begins}

unfoldable pub Linked : List Record → List Record → List Run → Type 0
Linked log before [] = before ≡ log
Linked log before (r ∷ rs) = (r.before ≡ before) × Linked log r.upto rs

linked_from : (before upto rest : List Record) → Linked (upto ++ rest) before (runs_from before upto rest)
unfolding Linked run
linked_from before upto [] = rw (alone before upto) (refl, sym (append-nil upto))
linked_from before upto (s ∷ rest) =
    ⊎_elim
    (λ e. rw e.1 (rw append_snoc at (linked_from before (upto ++ (s ∷ [])) rest)))
    (λ e. rw e (refl, rw append_snoc at (linked_from upto (upto ++ (s ∷ [])) rest)))
    (next before upto s rest)

pub linked_runs : (log : List Record) → Linked log [] (runs log)
unfolding Linked runs runs_after
linked_runs [] = refl
linked_runs (s ∷ log) = linked_from [] (s ∷ []) log

-- what holds of the empty log and up to each term holds before each term
before_each : (P : List Record → Type 0) (log before : List Record) (rs : List Run) → Linked log before rs → P before
    → ((r : Run) → Memᴰ r rs → P r.upto) → (r : Run) → Memᴰ r rs → P r.before
unfolding Linked
before_each P log before [] linked start each r m = absurd (Memᴰ.not-nil m)
before_each P log before (s ∷ rs) linked start each r m =
    ⊎_elim
    (λ (e : r ≡ s). subst (λ (x : Run). P x.before) (sym e) (subst P (sym linked.0) start))
    (λ h. before_each P log s.upto rs linked.1 (each s (Memᴰ.head refl)) (λ q k. each q (Memᴰ.tail k)) r h)
    (Memᴰ.cases_cons m)

-- the log before a term is a beginning of the log
pub before-begins : (log : List Record) (r : Run) → Memᴰ r (runs log) → take (length r.before) log ≡ r.before
before-begins log r m = before_each (λ l. take (length l) log ≡ l) log [] (runs log) (linked_runs log) refl (run-begins log) r m
