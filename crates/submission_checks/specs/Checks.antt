-- The checks from one on (document 01, "What stops an audit").
use Rattle.std.specs.Prelude.{List, [], ◌∷◌, ℕ, length}
use Rattle.refusal.specs.Checks.{every, Check, check}
use Rattle.roster.specs.Roster.{cluster, replicas}
use Rattle.log_chain.specs.Log.{with_terms}
use Rattle.submission.specs.View.{leads, slots}
use Rattle.submission.specs.Reading.{view, laid_out}
use Rattle.submission.specs.Validate.{quorate, masks, ordered, one_each, leading, within, genuine}

module _ (roster : List ℕ) (w S : ℕ) (s : List ℕ) where
  -- 13
  unfoldable pub leader_checks : List Check
  leader_checks =
      let v = view w S s in
      check 13 (every (leading (with_terms w (cluster roster)) (replicas roster)) (leads v))
      ∷ check 14 (within v.commit (length v.log)) ∷
      check 15 (every (genuine (with_terms w (cluster roster)) roster) (slots S v)) ∷ []

  -- 11
  unfoldable pub log_checks : List Check
  log_checks = let v = view w S s in check 11 (ordered v) ∷ check 12 (one_each v) ∷ leader_checks

  -- 9
  unfoldable pub part_checks : List Check
  part_checks =
      check 9 (laid_out w S s)
      ∷ check 10 (every (quorate (replicas roster)) (masks (view w S s)))
      ∷ log_checks
