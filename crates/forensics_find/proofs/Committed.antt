-- The receipts of a submission are those of its commit certificate, for the log up to the record that it names.
-- Assumes nothing.
use mathlib.Core.Path.{◌≡◌}
use mathlib.Core.Bool.{true}
use mathlib.Core.List.{List}
use Prim.Native.Nat.{ℕ, ◌*◌, ◌≤◌}
use native.Mathlib.Omega.{arith}
use borrow.Author.Tests.{leb-true}
use lib.ListN.{length}
use Rattle.std.specs.Prelude.{Option, Some, None}
use Rattle.refusal.proofs.Laws.{all_cons}
use Rattle.log_chain.specs.Log.{last_term}
use Rattle.submission.specs.Trailer.{record_count}
use Rattle.log_chain.specs.Records.{record_size, records_of}
use Rattle.submission.specs.Reading.{commit_at, view, laid_out}
use Rattle.submission.specs.Validate.{within}
use Rattle.log_chain.proofs.Records.{length-records, fewer_inside}
use Rattle.submission_parts.specs.declared.Commit.{Commit}
use Rattle.submission_parts.specs.Reader.{commit_numbers_at}
use Rattle.submission_parts.specs.Commits.{commit_part}
use Rattle.submission_parts.proofs.Commits.{absent-says, found-says}
use Rattle.submission_parts.proofs.Inside.{records-inside}
use Rattle.log_terms.proofs.Records.{take-records}
use Rattle.forensics_charges.specs.declared.Receipt.{Receipt}
use Rattle.forensics_charges.specs.Charges.{receipts_by, receipts}

module _ (w S : ℕ) (s : List ℕ) where
  pub no-receipts : commit_part w S s ≡ None → None ≡ receipts (view w S s)
  unfolding receipts receipts_by view
  no-receipts e = rw (absent-says w S s e)

  module _ {c : Commit} {at : ℕ} (e : commit_part w S s ≡ Some (c, at)) (inside : within (view w S s).commit (length (view w S s).log) ≡ true) where
    index-inside : (commit_at s at).index ≤ record_count s
    unfolding view within
    index-inside =
        let test = rw ((found-says w S s e).2, length-records) at inside in
        leb-true (commit_at s at).index (record_count s) (all_cons _ _ (all_cons _ _ test).1).0

    pub record_inside : laid_out w S s ≡ true → record_size w * c.index ≤ length s
    unfolding commit_numbers_at
    record_inside laid =
        rw (found-says w S s e).0 (fewer_inside w _ _ index-inside (omega (arith, records-inside w S s laid)))

    pub some-receipts : {term : ℕ} → term ≡ last_term (records_of w c.index s)
        → ◌≡◌ {A = Option Receipt} (Some (record { term = term; index = c.index; signers = c.signers })) (receipts (view w S s))
    unfolding receipts receipts_by view commit_numbers_at
    some-receipts h =
        let says = found-says w S s e in
        let whole = take-records w (commit_at s at).index (record_count s) s index-inside in
        rw (h, says.0, says.2, whole)
