-- What the checks say in the form that the functions ask for: the signers of each certificate, and the commit certificate inside.
-- Assumes nothing.
use mathlib.Core.Path.{◌≡◌, sym, ◌∙◌}
use mathlib.Core.Bool.{true}
use mathlib.Core.List.{List, map}
use mathlib.Core.Logic.{⊎_elim}
use mathlib.Core.Option.{some, some-ne-none}
use Prim.Native.Nat.{ℕ, ◌+◌, ◌^◌, ◌≤◌, ◌<◌}
use native.Mathlib.Omega.{arith}
use borrow.Author.Tests.{eqb-false, leb-true}
use lib.Dec.{eqb, leb}
use lib.ListN.{length}
use Rattle.words.specs.BigEndian.{number_at}
use Rattle.refusal.specs.Checks.{every}
use Rattle.refusal.proofs.Laws.{look, all_cons, cond-true, every_append}
use Rattle.roster.specs.Roster.{replicas}
use Rattle.submission.specs.Trailer.{record_count, distance}
use Rattle.log_chain.specs.Records.{records_of}
use Rattle.submission.specs.View.{committed_by, committed}
use Rattle.submission.specs.Reading.{signers_at, commit_at, commit_end, commit_from, commit_of, view}
use Rattle.submission.specs.Validate.{quorate, commit_signers, masks, within}
use Rattle.log_chain.proofs.Records.{length-records}
use Rattle.log_terms.proofs.Records.{take-records}
use Rattle.submission.proofs.Slots.{quorate_facts}
use Rattle.submission_parts.specs.declared.Shape.{Shape}
use Rattle.submission_parts.proofs.Inside.{commit-inside}
use Rattle.submission_parts.proofs.Shapes.{known-records}
use Rattle.submission_signatures.proofs.Quorate.{quorate_all}
use Rattle.submission_signatures.specs.Checked.{Laid}

module _ (roster : List ℕ) (shape : Shape) (s : List ℕ) (laid : Laid roster shape s) where
  both : (quorate_all (replicas roster) (view shape.width shape.size s).leaders ≡ true)
      × (every (quorate (replicas roster)) (commit_signers (view shape.width shape.size s).commit) ≡ true)
  unfolding masks quorate_all
  both =
      let v = view shape.width shape.size s in
      cond-true _ _ (sym (every_append (quorate (replicas roster)) (map (λ c. c.signers) v.leaders) (commit_signers v.commit)) ∙ laid.quorums)

  pub leaders-quorate : quorate_all (replicas roster) (view shape.width shape.size s).leaders ≡ true
  leaders-quorate = both.0

  module _ (at : ℕ) (there : commit_of shape.width shape.size s ≡ some (commit_at s at)) where
    pub commit-signers : signers_at s (at + 4) < 2 ^ replicas roster
    unfolding view commit_signers commit_at every
    commit-signers = (quorate_facts (replicas roster) (signers_at s (at + 4)) (cond-true _ _ (rw there at both.1)).0).1

    -- a commit certificate ends inside
    pub commit-end-in : at ≡ commit_from shape.width shape.size s → commit_end shape.size s at ≤ length s
    unfolding commit_of
    commit-end-in place =
        ⊎_elim
        (λ h. absurd (some-ne-none (commit_at s at) (sym (rw h at there))))
        (λ h. let b = laid.known.bounds in let i = commit-inside _ _ s laid.known.layout (eqb-false _ _ h) in rw place (omega arith))
        (look (eqb (distance s 4) 0))

    pub commit-within : within (view shape.width shape.size s).commit (length (view shape.width shape.size s).log) ≡ true → number_at 4 s at ≤ shape.records
    unfolding view within commit_at
    commit-within inside =
        let h : within (some (commit_at s at)) (length (records_of shape.width (record_count s) s)) ≡ true = rw there at inside in
        let q = all_cons (leb (number_at 4 s at) (length (records_of shape.width (record_count s) s))) _ (all_cons _ _ h).1 in
        rw (length-records shape.width (record_count s) s, ← known-records _ _ laid.known) at (leb-true (number_at 4 s at) (length (records_of shape.width (record_count s) s)) q.0)

    -- so the committed records are the first so many of the submission
    pub commit-records : within (view shape.width shape.size s).commit (length (view shape.width shape.size s).log) ≡ true
        → committed (view shape.width shape.size s) ≡ records_of shape.width (number_at 4 s at) s
    unfolding view committed committed_by commit_at
    commit-records inside =
        rw there (take-records shape.width (number_at 4 s at) (record_count s) s (rw (known-records _ _ laid.known) at (commit-within inside)))
