-- What the claim gives, drawn from the claim alone: a claim that said less would not give it.
-- Assumes nothing.
use mathlib.Core.Path.{◌≡◌, refl, sym, ap, subst, ◌∙◌}
use mathlib.Core.List.{List, [], ◌∷◌, Memᴰ}
use mathlib.Core.Option.{Option, some, none}
use Prim.Native.Nat.{ℕ, zero, suc}
use borrow.Author.Tests.{eq-eqb}
use lib.ListN.{take}
use Rattle.words.proofs.Same.{true_same}
use Rattle.roster.specs.Roster.{replicas, signature_size}
use Rattle.log_chain.specs.Log.{Record}
use Rattle.log_chain.specs.Runs.{Run, runs}
use Rattle.log_chain.specs.Difference.{same_record, differ_at}
use Rattle.submission.specs.View.{Commit, View, committed_by, committed}
use Rattle.submission.specs.Validate.{form_of, view_of, slots_of}
use Rattle.submission.proofs.Accepted.{validated}
use Rattle.submission.proofs.Slots.{Led, led}
use Rattle.assembly.specs.Assembly.{log_of}
use Rattle.assembly.specs.Claims.{Assembled}

-- ---- no fork

-- two beginnings of one log do not differ
differ_own : (i a b : ℕ) (l : List Record) → differ_at i (take a l) (take b l) ≡ 0
unfolding differ_at same_record
differ_own i zero b l = refl
differ_own i (suc a) zero [] = refl
differ_own i (suc a) zero (r ∷ l) = refl
differ_own i (suc a) (suc b) [] = refl
differ_own i (suc a) (suc b) (r ∷ l) = rw (eq-eqb r.term r.term refl, true_same r.digest) (differ_own (suc i) a b l)

committed_part : (o : Option Commit) (log : List Record) → (i : ℕ) × (committed_by o log ≡ take i log)
unfolding committed_by
committed_part none log = (0, refl)
committed_part (some c) log = (c.index, refl)

views_agree : (a b : View) → a.log ≡ b.log → differ_at 1 (committed a) (committed b) ≡ 0
unfolding committed
views_agree a b e =
    let one = committed_part a.commit a.log in
    let other = committed_part b.commit b.log in
    (λ i. differ_at 1 (one.1 i) (other.1 i)) ∙ ap (λ l. differ_at 1 (take one.0 l) (take other.0 b.log)) e
    ∙ differ_own 1 one.0 other.0 b.log

-- two submissions assembled from one log, from any bags, do not fork
module _ (roster log : List ℕ) (number₁ size₁ number₂ size₂ : ℕ) (output₁ output₂ : List ℕ) where
  no-fork : Assembled roster log number₁ size₁ output₁ → Assembled roster log number₂ size₂ output₂ → number₁ ≡ 0 → number₂ ≡ 0
      → differ_at 1 (committed (view_of roster (take size₁ output₁))) (committed (view_of roster (take size₂ output₂))) ≡ 0
  unfolding Assembled
  no-fork claim₁ claim₂ zero₁ zero₂ =
      views_agree (view_of roster (take size₁ output₁)) (view_of roster (take size₂ output₂)) ((claim₁ zero₁).1 ∙ sym (claim₂ zero₂).1)

-- ---- each term led

-- in what is assembled, each term of the log that was given has its leader, with a quorum of votes and a stamp
terms_led : (roster log : List ℕ) (number size : ℕ) (output : List ℕ) → Assembled roster log number size output → number ≡ 0
    → (r : Run) → Memᴰ r (runs (log_of (form_of roster).term_bytes log)) → Led (replicas roster) (slots_of roster (take size output)) r
unfolding Assembled slots_of
terms_led roster log number size output claim is_zero r m =
    let both = claim is_zero in
    let s = take size output in
    led (form_of roster) (replicas roster) (signature_size roster) (view_of roster s) (validated roster s both.0).sound r
    (subst (λ l. Memᴰ r (runs l)) (sym both.1) m)
