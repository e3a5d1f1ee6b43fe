-- The receipts of an index, by their statement; the commit, index by index; and the row that stands for it.
-- Assumes nothing.
use mathlib.Core.Path.{◌≡◌, refl, ap, ◌∙◌}
use mathlib.Core.Bool.{false}
use mathlib.Core.List.{List, [], ◌∷◌, ◌++◌, append-nil}
use mathlib.Core.Option.{Option, some, none}
use Prim.Native.Nat.{ℕ, zero, suc, ◌+◌, ◌-◌, ◌≤◌, ◌<◌, zero-le}
use native.Mathlib.Omega.{arith}
use borrow.Author.Tests.{eq-eqb, ne_eqb, le-leb, lt-leb}
use lib.Count.{ones}
use lib.Dec.{eqb}
use lib.ListN.{length, take, get_or, drop_of_length-le}
use lib.Seq.{take-take, length-take-le, get_or-take, sets, sets-eq}
use Rattle.roster.specs.Roster.{replicas, quorum}
use Rattle.log_chain.specs.Log.{Form, with_terms, Record, pointer, last_term}
use Rattle.log_chain.specs.Claim.{received, say}
use Rattle.log_chain.specs.Sizes.{place_statement}
use Rattle.log_chain.specs.Records.{records_of}
use Rattle.log_chain.proofs.Records.{length-records}
use Rattle.log_chain.proofs.Said.{receipt-said}
use Rattle.log_terms.proofs.Records.{take-records}
use Rattle.submission_encoding.specs.Copies.{signers_of, signatures_of}
use Rattle.assembly.specs.Items.{Item}
use Rattle.assembly.specs.Choice.{receipts_for, commit_to}
use Rattle.assembly_copies.specs.declared.Sought.{Sought}
use Rattle.roster.specs.Sizes.{replicas_most}
use Rattle.assembly_copies.specs.Rows.{taken_size, copies_at, commit_in, Placed}
use Rattle.assembly_copies.specs.Sought.{statement_at}
use Rattle.assembly_commit.specs.Searched.{CommitRowHeld}

-- one statement alone, with no end of its own
pub whole-statement : (q : Sought) (wanted : List ℕ) (m : ℕ) → q.tail ≡ 0 → statement_at q wanted m ≡ take q.head wanted
unfolding statement_at
whole-statement q wanted m e = rw e (append-nil (take q.head wanted))

-- the statement of the receipts for the first i of some records
pub receipt-upto : (w count : ℕ) (log name p : List ℕ) (i : ℕ) → i ≤ count → p ≡ pointer (with_terms w []) (records_of w i log)
    → place_statement 2 name w (last_term (records_of w i log)) i p
    ≡ (let upto = take i (records_of w count log) in say (with_terms w name) (received (last_term upto) upto))
receipt-upto w count log name p i inside pointed =
    rw (take-records w i count log inside)
    (receipt-said name w (records_of w i log) (last_term (records_of w i log)) i p (length-records w i log) pointed)

-- ---- the commit

module _ (form : Form) (roster : List ℕ) (items : List Item) (log : List Record) where
  pub commit-lower : (i : ℕ) → 0 < i → ones (signers_of (receipts_for form roster items i log)) < quorum (replicas roster)
      → commit_to form roster items i log ≡ commit_to form roster items (i - 1) log
  unfolding commit_to
  commit-lower zero p h = absurd (omega (arith, p))
  commit-lower (suc i) p h =
      let below : suc i - 1 ≡ i = omega arith in
      rw (lt-leb _ _ h, below)

  pub commit-here : (i : ℕ) → 0 < i → quorum (replicas roster) ≤ ones (signers_of (receipts_for form roster items i log))
      → commit_to form roster items i log
      ≡ some (record {
        index = i;
        signers = signers_of (receipts_for form roster items i log);
        signatures = signatures_of (receipts_for form roster items i log);
      })
  unfolding commit_to
  commit-here zero p h = absurd (omega (arith, p))
  commit-here (suc i) p h = rw (le-leb _ _ h)

  pub commit-none : (i : ℕ) → i ≤ 0 → commit_to form roster items i log ≡ none
  unfolding commit_to
  commit-none zero h = refl
  commit-none (suc i) h = absurd (omega (arith, h))

  -- whether there are enough of them, by the mask of their places
  pub enough : (S n mask q i : ℕ) (item_bytes places : List ℕ) → mask ≡ signers_of (copies_at S item_bytes n places) → n ≡ replicas roster
      → q ≡ quorum n → copies_at S item_bytes (replicas roster) places ≡ receipts_for form roster items i log
      → (ones mask ≡ ones (signers_of (receipts_for form roster items i log))) × (q ≡ quorum (replicas roster))
  enough S n mask q i item_bytes places m e k found =
      (ap ones (m ∙ ap (λ j. signers_of (copies_at S item_bytes j places)) e ∙ ap signers_of found), k ∙ ap quorum e)

-- ---- its row

pub row_made : (row places : List ℕ) (i : ℕ) → length row ≡ taken_size → replicas_most ≤ length places
    → sets row 0 (i ∷ 0 ∷ take replicas_most places) ≡ i ∷ 0 ∷ take replicas_most places
row_made row places i size room =
    let few : length (take replicas_most places) ≡ replicas_most = length-take-le replicas_most places room in
    let vs = i ∷ 0 ∷ take replicas_most places in
    let long : 0 + length vs ≡ taken_size = omega (arith, few) in
    sets-eq vs row 0 (omega (arith, size, few))
    ∙ ap (λ z. vs ++ z) (drop_of_length-le row {i = 0 + length vs} (omega (arith, size, long))) ∙ append-nil vs

module _ (S : ℕ) (item_bytes : List ℕ) (n : ℕ) where
  pub row_of : (i : ℕ) (places : List ℕ) (cs : List (Option (List ℕ))) → 0 < i → n ≤ replicas_most → copies_at S item_bytes n places ≡ cs
      → some (record { index = i; signers = signers_of cs; signatures = signatures_of cs })
      ≡ commit_in S item_bytes n (i ∷ 0 ∷ take replicas_most places)
  unfolding commit_in copies_at
  row_of i places cs p few e =
      let first : take n (take replicas_most places) ≡ take n places = take-take n replicas_most places few in
      let some-index : eqb i 0 ≡ false = ne_eqb i 0 (λ z. omega (arith, z, p)) in
      rw (first, e, some-index)

  pub row-none : (row : List ℕ) → get_or row 0 0 ≡ 0 → none ≡ commit_in S item_bytes n row
  unfolding commit_in
  row-none row e = rw (eq-eqb (get_or row 0 0) 0 e)

pub row-held : (S : ℕ) (item_bytes : List ℕ) (records i : ℕ) (places : List ℕ) → i ≤ records → Placed S item_bytes replicas_most places
    → CommitRowHeld S item_bytes records (i ∷ 0 ∷ take replicas_most places)
unfolding Placed
row-held S item_bytes records i places h held =
    record {
      index = h;
      places = λ k low high. place k low high;
    }
  where
    place : (k : ℕ) → 0 < k → k < taken_size → get_or (i ∷ 0 ∷ take replicas_most places) k 0 ≤ length item_bytes - S
    place zero low high = absurd (omega (arith, low))
    place (suc zero) low high = zero-le
    place (suc (suc k)) low high =
        let early : k < replicas_most = omega (arith, high) in
        rw (get_or-take replicas_most places k 0 early) (held k early)

pub row_empty : (S : ℕ) (item_bytes : List ℕ) (records : ℕ) (row : List ℕ) → ((j : ℕ) → j < taken_size → get_or row j 0 ≡ 0) → CommitRowHeld S item_bytes records row
row_empty S item_bytes records row e =
    record {
      index = rw (e 0 (omega arith)) zero-le;
      places = λ k low high. rw (e k high) zero-le;
    }
