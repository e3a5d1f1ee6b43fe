-- Each check that is not met ends the validation with its number; those that are met are what the next one asks for.
use mathlib.Core.Path.{sym, ◌∙◌}
use native.Mathlib.Omega.{arith}
use Rattle.refusal.proofs.Laws.{passed, refused, met, unmet}
use Rattle.roster.proofs.Accepted.{sizes}
use Rattle.std.specs.Prelude.{is_some}
use Rattle.submission_checks.specs.Checks.{leader_checks}
use Rattle.submission_checks.proofs.Facts.{asked_leading, leaders_passed}
use mathlib.Core.Path.{ap}
use mathlib.Core.Bool.{not}
use Rattle.submission_checks.proofs.validate_leaders.Goals as goal

pub replicas-n-requires : goal.replicas-n-requires
replicas-n-requires c = let z = sizes _ c.requires.laid.fine in omega arith

pub leaders_match_log-requires : goal.leaders_match_log-requires
leaders_match_log-requires c = let p = c.requires in (p.laid.known, p.count)

pub returns-in_default : goal.returns-in_default
unfolding leader_checks
returns-in_default c =
    let led = asked_leading _ _ _ _ c.replicas-n.ensures.0 c.leaders_match_log.ensures.holds in
    record { number = sym (refused 13 _ _ (sym led ∙ ap is_some c.in_default.is)); pointers = tt }

pub index_within_log-requires : goal.index_within_log-requires
index_within_log-requires c = c.requires.laid.known

pub returns-then-not-index_within_log : goal.returns-then-not-index_within_log
unfolding leader_checks
returns-then-not-index_within_log c =
    let led = asked_leading _ _ _ _ c.replicas-n.ensures.0 c.leaders_match_log.ensures.holds in
    record { number = sym (passed 13 _ _ (sym led ∙ ap is_some c.in-Some.is) ∙ refused 14 _ _ (unmet c.index_within_log.ensures (ap not c.if-not-index_within_log.true))); pointers = tt }

pub all_signatures_good-requires : goal.all_signatures_good-requires
all_signatures_good-requires c =
    let led = asked_leading _ _ _ _ c.replicas-n.ensures.0 c.leaders_match_log.ensures.holds in (
      record { counted = c.requires; leaders = sym led ∙ ap is_some c.in-Some.is; commit = met c.index_within_log.ensures (ap not c.if-not-index_within_log.false) },
      c.in-Some.ensures.pointers,
    )

pub returns-then-not-all_signatures_good : goal.returns-then-not-all_signatures_good
unfolding leader_checks
returns-then-not-all_signatures_good c =
    let led = asked_leading _ _ _ _ c.replicas-n.ensures.0 c.leaders_match_log.ensures.holds in
    record {
      number = sym (passed 13 _ _ (sym led ∙ ap is_some c.in-Some.is) ∙ passed 14 _ _ (met c.index_within_log.ensures (ap not c.if-not-index_within_log.false))
          ∙ refused 15 _ _ (unmet c.all_signatures_good.ensures (ap not c.if-not-all_signatures_good.true)));
      pointers = tt;
    }

pub returns : goal.returns
returns c =
    let led = asked_leading _ _ _ _ c.replicas-n.ensures.0 c.leaders_match_log.ensures.holds in record {
      number = leaders_passed _ _ _ _ (sym led ∙ ap is_some c.in-Some.is) (met c.index_within_log.ensures (ap not c.if-not-index_within_log.false))
          (met c.all_signatures_good.ensures (ap not c.if-not-all_signatures_good.false));
      pointers = c.in-Some.ensures.pointers;
    }
