-- Part 4: its certificate is the definition's.
-- Assumes nothing.
use mathlib.Core.Path.{◌≡◌, refl, sym, ◌∙◌}
use mathlib.Core.List.{List}
use mathlib.Core.Logic.{⊎_elim}
use mathlib.Core.Option.{Option, some, none}
use Prim.Native.Nat.{ℕ}
use borrow.Author.Tests.{eqb-true, eqb-false, eq-eqb, ne_eqb}
use lib.Dec.{eqb}
use lib.ListN.{take}
use Rattle.std.specs.Prelude as std
use Rattle.std.proofs.lemmas.Option.{none-some, some_pair_parts}
use Rattle.refusal.proofs.Laws.{look}
use Rattle.submission_parts.specs.declared.Commit.{Commit}
use Rattle.log_chain.specs.Log.{Record}
use Rattle.submission.specs.Trailer.{distance}
use Rattle.submission.specs.View as view
use Rattle.submission.specs.View.{committed_by}
use Rattle.submission.specs.Reading.{commit_at, commit_from, commit_of}
use Rattle.submission_parts.specs.Reader.{commit_numbers_at}
use Rattle.submission_parts.specs.Commits.{commit_part, commit_index}

module _ (w S : ℕ) (s : List ℕ) where
  pub absent : distance s 4 ≡ 0 → std.None ≡ commit_part w S s
  unfolding commit_part
  absent h = rw (eq-eqb (distance s 4) 0 h)

  pub found : (distance s 4 ≡ 0 → ⊥) → std.Some (commit_numbers_at s (commit_from w S s), commit_from w S s) ≡ commit_part w S s
  unfolding commit_part
  found h = rw (ne_eqb (distance s 4) 0 h)

  pub absent-says : commit_part w S s ≡ std.None → commit_of w S s ≡ none
  unfolding commit_of
  absent-says e =
      ⊎_elim
      (λ h. rw h)
      (λ h. absurd (none-some _ (sym (found (eqb-false _ _ h) ∙ e))))
      (look (eqb (distance s 4) 0))

  pub found-says : {c : Commit} {at : ℕ} → commit_part w S s ≡ std.Some (c, at)
      → (c ≡ commit_numbers_at s at) × (at ≡ commit_from w S s) × (commit_of w S s ≡ some (commit_at s at))
  unfolding commit_of
  found-says {c} {at} e =
      ⊎_elim
      (λ h. absurd (none-some _ (absent (eqb-true _ _ h) ∙ e)))
      (λ h. let told = some_pair_parts _ _ _ _ (sym e ∙ sym (found (eqb-false _ _ h))) in
      let place : at ≡ commit_from w S s = told.1 in
      let numbers : c ≡ commit_numbers_at s (commit_from w S s) = told.0 in
      (rw place numbers, place, rw (h, place)))
      (look (eqb (distance s 4) 0))

-- the committed records are those up to its index
pub committed-take : (commit : Option view.Commit) (log : List Record) → committed_by commit log ≡ take (commit_index commit) log
unfolding committed_by commit_index
committed-take none log = refl
committed-take (some c) log = refl
