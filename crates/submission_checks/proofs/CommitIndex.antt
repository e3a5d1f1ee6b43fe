-- Check 14 on the index of the commit certificate, where there is one.
-- Assumes nothing.
use mathlib.Core.Path.{◌≡◌}
use mathlib.Core.Bool.{true, false}
use mathlib.Core.List.{List}
use Prim.Native.Nat.{ℕ, ◌<◌}
use native.Mathlib.Omega.{arith}
use borrow.Author.Tests.{lt-ltb, le-ltb}
use lib.Dec.{leb}
use lib.ListN.{length}
use Rattle.std.specs.Prelude.{Some, None}
use Rattle.refusal.proofs.Laws.{first_fails, first_holds, all_one}
use Rattle.submission.specs.Trailer.{record_count}
use Rattle.submission.specs.Reading.{commit_at, view}
use Rattle.submission.specs.Validate.{within}
use Rattle.log_chain.proofs.Records.{length-records}
use Rattle.submission_parts.specs.declared.Commit.{Commit}
use Rattle.submission_parts.specs.Reader.{commit_numbers_at}
use Rattle.submission_parts.specs.Commits.{commit_part}
use Rattle.submission_parts.proofs.Commits.{absent-says, found-says}

module _ (w S : ℕ) (s : List ℕ) where
  pub no_index : commit_part w S s ≡ None → true ≡ within (view w S s).commit (length (view w S s).log)
  unfolding view within
  no_index e = rw (absent-says w S s e)

  module _ {c : Commit} {at : ℕ} (e : commit_part w S s ≡ Some (c, at)) where
    pub zero-index : c.index ≡ 0 → false ≡ within (view w S s).commit (length (view w S s).log)
    unfolding view within commit_numbers_at
    zero-index h = let says = found-says w S s e in
        let index : (commit_at s at).index ≡ 0 = rw says.0 at h in
        rw says.2 (first_fails _ _ (le-ltb 0 (commit_at s at).index (omega arith)))

    pub index-within : 0 < c.index → leb c.index (record_count s) ≡ within (view w S s).commit (length (view w S s).log)
    unfolding view within commit_numbers_at
    index-within h = let says = found-says w S s e in
        let index : 0 < (commit_at s at).index = rw says.0 at h in
        rw (says.2, says.0, length-records) (first_holds _ _ (lt-ltb 0 (commit_at s at).index index) (all_one _))
