-- Check 15 is its three parts together: votes, stamps, receipts. The votes are those of the certificates, whatever terms they go with.
-- Assumes nothing.
use mathlib.Core.Path.{◌≡◌, refl, sym, ap, ◌∙◌}
use mathlib.Core.Bool.{Bool, true, false, cond}
use mathlib.Core.List.{List, [], ◌∷◌, ◌++◌, map, flat_map}
use mathlib.Core.Option.{some, none}
use Prim.Native.Nat.{ℕ}
use native.Mathlib.Nat.{suc_inj}
use native.Mathlib.Omega.{arith}
use borrow.Author.Tests.{eqb-true}
use lib.ListN.{length}
use Rattle.refusal.specs.Checks.{every}
use Rattle.refusal.proofs.Laws.{every_append}
use Rattle.submission.specs.View.{Certificate, Commit, View, leads_of, leads, Slot, votes_of, stamp_of, receipts_of, slots}
use Rattle.log_chain.specs.Runs.{Run, runs}
use Rattle.submission.specs.Validate.{one_each}
use Rattle.submission_signatures.specs.Votes.{ballots}

-- ---- two tests

both_tests : (a b c : Bool) → cond (cond a b false) c false ≡ cond a (cond b c false) false
both_tests true b c = refl
both_tests false b c = refl

pub first_fails : {a : Bool} (b : Bool) → a ≡ false → false ≡ cond a b false
first_fails b e = rw e

pub first_holds : {a : Bool} (b : Bool) → a ≡ true → b ≡ cond a b false
first_holds b e = rw e

pub second_holds : (a : Bool) {b : Bool} → b ≡ true → a ≡ cond a b false
second_holds a {b} e = go a
  where
    go : (a : Bool) → a ≡ cond a b false
    go true = sym e
    go false = refl

-- ---- the votes

pub votes_leads : (S : ℕ) (cs : List Certificate) (rs : List Run) (gs : List (List ℕ)) → length rs ≡ length cs → length gs ≡ length cs
    → flat_map (votes_of S) (leads_of cs rs gs) ≡ flat_map (ballots S) cs
unfolding leads_of flat_map votes_of ballots
votes_leads S [] rs gs e d = refl
votes_leads S (c ∷ cs) [] gs e d = absurd (omega arith)
votes_leads S (c ∷ cs) (r ∷ rs) [] e d = absurd (omega arith)
votes_leads S (c ∷ cs) (r ∷ rs) (g ∷ gs) e d = rw (votes_leads S cs rs gs (suc_inj e) (suc_inj d))

-- ---- the three parts

module _ (test : Slot → Bool) (S : ℕ) (v : View) where
  pub parts : one_each v ≡ true → length v.stamps ≡ length v.leaders
      → every test (slots S v)
      ≡ cond (every test (flat_map (ballots S) v.leaders))
      (cond (every test (map (stamp_of S) (leads v))) (every test (receipts_of S v.commit v.log)) false)
      false
  unfolding slots leads one_each
  parts terms stamps =
      every_append test (flat_map (votes_of S) (leads v) ++ map (stamp_of S) (leads v)) (receipts_of S v.commit v.log)
      ∙ ap (λ (b : Bool). cond b (every test (receipts_of S v.commit v.log)) false) (every_append test (flat_map (votes_of S) (leads v)) (map (stamp_of S) (leads v)))
      ∙ both_tests (every test (flat_map (votes_of S) (leads v))) _ _
      ∙ rw (votes_leads S v.leaders (runs v.log) v.stamps (sym (eqb-true _ _ terms)) stamps)

  -- no commit certificate, no receipts
  pub no-receipts : v.commit ≡ none → every test (receipts_of S v.commit v.log) ≡ true
  unfolding receipts_of every
  no-receipts e = rw e

  -- with one, its own
  pub with-receipts : {c : Commit} {a r : Bool} → v.commit ≡ some c → a ≡ true → r ≡ every test (receipts_of S (some c) v.log)
      → r ≡ cond a (every test (receipts_of S v.commit v.log)) false
  with-receipts e ea h = rw (ea, e) h
