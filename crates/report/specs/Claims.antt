-- Demand 3, on the number and the bytes of a report: naming and fairness.
use Rattle.std.specs.Prelude.{◌≡◌, true, false, ℕ, ◌≤◌, ◌<◌}
use mathlib.Core.List.{List, [], ◌∷◌, ◌++◌, map, flat_map, Memᴰ}
use Rattle.std.proofs.Math.Option.{some}
use Rattle.std.proofs.Math.ListN.{get_elem?}
use Rattle.lm_format.specs.Leaf.{leaf_of}
use Rattle.lm_format.specs.Uses.{use_of}
use Rattle.lms.specs.Check.{good}
use Rattle.roster.specs.Roster.{replicas, key_of}
use Rattle.roster.specs.Masks.{signer}
use Rattle.log_chain.specs.Log.{Record, chain_strings}
use Rattle.log_chain.specs.Claim.{say}
use Rattle.log_chain.specs.Apart.{Apart}
use Rattle.replica.specs.Replica.{Act, first, keeps, signed, held, use_in}
use Rattle.submission.specs.View.{Slot, committed}
use Rattle.submission.specs.Validate.{form_of, view_of, slots_of}
use Rattle.report.specs.Report.{named_in}

-- ---- naming

-- at some index the two have records, and those differ; the index counts from 0 here, and from 1 in
-- document 01
pub record Differ (l m : List Record) : Type 0 where
  pub index : ℕ
  pub one : Record
  pub other : Record
  pub in_one : get_elem? l index ≡ some one
  pub in-other : get_elem? m index ≡ some other
  pub differ : one ≡ other → ⊥

module _ (roster s₁ s₂ : List ℕ) where
  -- any two accepted submissions that differ at an index committed in both get at least one replica named
  unfoldable pub Naming : ℕ → List ℕ → Type 0
  Naming number report =
      number ≡ 0 → Differ (committed (view_of roster s₁)) (committed (view_of roster s₂))
      → named_in report ≡ 0 → ⊥

-- ---- fairness

module _ (roster : List ℕ) where
  -- each signature in some submissions that is good under the replica's key stands on a statement signed in
  -- the list, with that very leaf (document 02, W5)
  unfoldable pub OwnSignatures : List (List ℕ) → ℕ → List Act → Type 0
  OwnSignatures submissions k acts =
      (x : Slot) → Memᴰ x (flat_map (slots_of roster) submissions)
      → good (key_of roster k) (say (form_of roster) x.claim) x.signature ≡ true
      → Memᴰ (use_of (leaf_of (key_of roster k) x.signature) (say (form_of roster) x.claim))
      (map (use_in (form_of roster)) (signed first acts))

  -- the chain strings of a submission's log
  unfoldable pub strings_in : List ℕ → List (List ℕ)
  strings_in s = chain_strings (form_of roster) (view_of roster s).log

  -- the chain strings of every log held and of some submissions
  unfoldable pub strings : List (List ℕ) → List Act → List (List ℕ)
  strings submissions acts =
      flat_map (chain_strings (form_of roster)) (held first acts)
      ++ flat_map strings_in submissions

  -- a replica whose acts all kept the board rules is not among those named by some submissions, whatever
  -- others did or sent: one claim over its whole list of acts
  unfoldable pub Fair : List (List ℕ) → ℕ → Type 0
  Fair submissions named =
      (k : ℕ) → 0 < k → k ≤ replicas roster
      → (acts : List Act) → keeps (form_of roster) (replicas roster) first acts ≡ true
      → OwnSignatures submissions k acts → Apart (strings submissions acts) (strings submissions acts)
      → signer named k ≡ false

  -- of an audit of two; with number 1 there is no report
  unfoldable pub Fairness : List ℕ → List ℕ → ℕ → List ℕ → Type 0
  Fairness s₁ s₂ number report = (number ≡ 1 → ⊥) → Fair (s₁ ∷ s₂ ∷ []) (named_in report)
