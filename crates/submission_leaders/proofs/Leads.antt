-- Check 13 on one certificate, in the code's order: its term, the log that its last fields name, its candidate. The first test that fails, or the
-- last, gives the answer.
-- Assumes nothing.
use mathlib.Core.Path.{◌≡◌, refl, ◌∙◌}
use mathlib.Core.Bool.{Bool, true, false, cond}
use mathlib.Core.List.{List, []}
use Prim.Native.Nat.{ℕ, ◌≤◌, ◌<◌}
use borrow.Author.Tests.{le-leb, lt-leb, eq-eqb, ne_eqb}
use lib.Dec.{eqb}
use lib.ListN.{length}
use Rattle.words.specs.BigEndian.{same}
use Rattle.refusal.specs.Checks.{all}
use Rattle.roster.specs.Masks.{signer}
use Rattle.log_chain.specs.Log.{with_terms, Record, pointer, last_term}
use Rattle.log_chain.specs.Claim.{Ballot}
use Rattle.log_chain.proofs.Pointers.{pointer_form}
use Rattle.log_chain.specs.Runs.{run}
use Rattle.submission.specs.View.{Certificate}
use Rattle.submission.specs.Validate.{leading}
use Rattle.submission_leaders.specs.Leads.{follows, elected}

-- ---- tests in a row

last_test : (b : Bool) → b ≡ cond b true false
last_test true = refl
last_test false = refl

-- three tests, and one after them
three : (a b c d : Bool) → cond (cond a (cond b (cond c true false) false) false) d false ≡ cond a (cond b (cond c d false) false) false
three true true true d = refl
three true true false d = refl
three true false c d = refl
three false b c d = refl

module _ (b : Ballot) (before : List Record) (p : List ℕ) where
  pub other-term : (b.last_term ≡ last_term before → ⊥) → false ≡ follows b before p
  unfolding follows all
  other-term h = rw (ne_eqb _ _ h)

  module _ (term : b.last_term ≡ last_term before) where
    pub other-index : (b.last_index ≡ length before → ⊥) → false ≡ follows b before p
    unfolding follows all
    other-index h = rw (eq-eqb _ _ term, ne_eqb _ _ h)

    pub by-pointer : b.last_index ≡ length before → same b.last_pointer p ≡ follows b before p
    unfolding follows all
    by-pointer h = rw (eq-eqb _ _ term, eq-eqb _ _ h) (last_test _)

module _ (n signers k : ℕ) where
  pub no-replica : k < 1 → false ≡ elected n signers k
  unfolding elected all
  no-replica h = rw (lt-leb _ _ h)

  module _ (low : 1 ≤ k) where
    pub above-replicas : n < k → false ≡ elected n signers k
    unfolding elected all
    above-replicas h = rw (le-leb _ _ low, lt-leb _ _ h)

    pub by-signer : k ≤ n → signer signers k ≡ elected n signers k
    unfolding elected all
    by-signer h = rw (le-leb _ _ low, le-leb _ _ h) (last_test _)

-- ---- one certificate

module _ (w : ℕ) (name : List ℕ) (n : ℕ) (c : Certificate) (before upto : List Record) (stamp : List ℕ) where
  pub wrong-term : (c.ballot.term ≡ last_term upto → ⊥) → false ≡ leading (with_terms w name) n (record { certificate = c; term = run before upto; stamp = stamp })
  unfolding leading run all
  wrong-term h = rw (ne_eqb _ _ h)

  module _ (p : List ℕ) (pointed : p ≡ pointer (with_terms w []) before) (term : c.ballot.term ≡ last_term upto) where
    in_parts : cond (follows c.ballot before p) (elected n c.signers c.ballot.candidate) false
        ≡ leading (with_terms w name) n (record { certificate = c; term = run before upto; stamp = stamp })
    unfolding leading follows elected run all
    in_parts =
        let b = c.ballot in
        rw (eq-eqb _ _ term, pointed ∙ pointer_form (with_terms w []) (with_terms w name) refl before)
        (three
        (eqb b.last_term (last_term before))
        (eqb b.last_index (length before))
        (same b.last_pointer (pointer (with_terms w name) before))
        (elected n c.signers b.candidate))

    pub wrong-last : follows c.ballot before p ≡ false → false ≡ leading (with_terms w name) n (record { certificate = c; term = run before upto; stamp = stamp })
    wrong-last h = rw h at in_parts

    pub by-election : follows c.ballot before p ≡ true
        → elected n c.signers c.ballot.candidate ≡ leading (with_terms w name) n (record { certificate = c; term = run before upto; stamp = stamp })
    by-election h = rw h at in_parts
