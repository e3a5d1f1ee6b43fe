-- Check 13 on all certificates, one certificate and one term at a time: it fails, or it does not, or none is left. Then the walk has come
-- to the log's end.
-- Assumes nothing.
use mathlib.Core.Path.{◌≡◌}
use mathlib.Core.Bool.{Bool, true, false, not, cond}
use mathlib.Core.List.{List, [], ◌∷◌}
use Prim.Native.Nat.{ℕ, ◌+◌, ◌-◌, ◌≤◌, ◌<◌}
use native.Mathlib.Omega.{arith}
use Rattle.std.proofs.Common.{add-one}
use borrow.Author.Tests.{not-true, not-false}
use lib.ListN.{length, drop, get_or}
use lib.Seq.{drop-cons}
use Rattle.refusal.specs.Checks.{every}
use Rattle.log_chain.specs.Log.{with_terms}
use Rattle.log_chain.specs.Runs.{Run}
use Rattle.log_terms.specs.declared.LogPointers.{LogPointers}
use Rattle.log_terms.specs.Pointed.{PointersOf, PointersCarried}
use Rattle.submission.specs.View.{Lead, leads_of, committed}
use Rattle.submission.specs.Reading.{certificate_at, certificate_end, certificates, commit_of, view}
use Rattle.submission.proofs.Certificates.{certificates-first}
use Rattle.submission_parts.specs.declared.Shape.{Shape}
use Rattle.submission_parts.specs.Shapes.{Known}
use Rattle.submission_parts.specs.Commits.{commit_index}
use Rattle.submission_parts.proofs.Commits.{committed-take}
use Rattle.submission_parts.proofs.Shapes.{known-records}

module _ (w S : ℕ) (s : List ℕ) where
  -- with the stamps from k on
  module _ (test : Lead → Bool) (left at : ℕ) (rs : List Run) (k : ℕ) (stamps : List (List ℕ)) {b : Bool}
      (rest : every test (leads_of (certificates w S s left at) rs (drop k stamps)) ≡ b) where
    pub led : left ≤ 0 → true ≡ b
    unfolding certificates leads_of every
    led h = let none_left : left ≡ 0 = omega arith in rw none_left at rest

    module _ (more : 0 < left) (inside : k < length stamps) (r : Run) (later : List Run) (split : rs ≡ r ∷ later) {ok : Bool}
        (asked : (stamp : List ℕ) → ok ≡ test (record { certificate = certificate_at w s at; term = r; stamp = stamp })) where
      lead-first : cond ok (every test (leads_of (certificates w S s (left - 1) (certificate_end w S s at)) later (drop (k + 1) stamps))) false ≡ b
      unfolding leads_of every
      lead-first =
          rw (add-one, asked (get_or stamps k []))
          (rw (certificates-first w S s left at more, split, drop-cons stamps k [] inside) at rest)

      pub lead-fails : not ok ≡ true → false ≡ b
      lead-fails e = rw (not-true ok e) at lead-first

      pub lead-next : not ok ≡ false → every test (leads_of (certificates w S s (left - 1) (certificate_end w S s at)) later (drop (k + 1) stamps)) ≡ b
      lead-next e = rw (not-false ok e) at lead-first

-- at the log's end the pointers are those of what the submission says
pub walked_through : (shape : Shape) (s : List ℕ) (commit i : ℕ) {p : LogPointers} → Known shape s
    → commit ≡ commit_index (commit_of shape.width shape.size s) → i ≡ shape.records
    → PointersCarried shape.width commit i s p
    → PointersOf (with_terms shape.width []) (committed (view shape.width shape.size s)) (view shape.width shape.size s).log p
unfolding committed view
walked_through shape s commit i known index end h =
    rw (committed-take (commit_of shape.width shape.size s) _, ← index, ← known-records shape s known, ← end) h
