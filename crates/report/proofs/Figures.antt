-- Document 01's marked figures, by computation, as one statement over their list.
-- Assumes nothing.
use mathlib.Core.Path.{refl}
use mathlib.Core.List.{List, [], ◌∷◌, ◌++◌, flat_map}
use Rattle.words.specs.BigEndian.{number, be, number_at, same}
use Rattle.refusal.specs.Checks.{all, every, check, refusal}
use Rattle.lm_digits.specs.Parameters.{row}
use Rattle.lm_format.specs.Format.{height, signature_length, path_at, one_time_bytes}
use Rattle.lms.specs.Figures.{Figure, figure, AllHold, signature_figures}
use Rattle.lms.proofs.Figures.{signature_figures_lem}
use Rattle.roster.specs.Roster.{cluster, replicas, quorum, key_of, tree_type, one_time_type, levels, signature_size, every_replica, sized, typed, single, roster_number}
use Rattle.log_chain.specs.Log.{version1}
use Rattle.log_chain.specs.Ends.{rising, staler}
use Rattle.replica.specs.Charges.{charge, clash, stale_vote}
use Rattle.submission.specs.Trailer.{name, word, record_count, leader_count, distance, version}
use Rattle.log_chain.specs.Runs.{runs, runs_after}
use Rattle.submission.specs.View.{leads, leads_of, slots, receipts_of}
use Rattle.submission.specs.Reading.{view, laid_out, certificates, certificates_end, stamps_at, leaders_from, stamps_from, commit_from, commit_of}
use Rattle.log_chain.specs.Records.{record_size, records_of}
use Rattle.submission.specs.Validate.{sized as sized_submission, versioned, named, counted, commit_signers, masks, ordered, one_each, within, form_of, view_of, slots_of, validate}
use Rattle.forensics.specs.Findings.{lowest, lower}
use Rattle.report.specs.Figures.{sample_key, sample_roster, sample_submission, rule_of, receipt_then_vote, audit_figures, marked_figures}

-- figures one after the other
both : (xs ys : List Figure) → AllHold xs → AllHold ys → AllHold (xs ++ ys)
unfolding AllHold
both [] ys h k = k
both (x ∷ xs) ys h k = (h.0, both xs ys h.1 k)

audit_figures_lem : AllHold audit_figures
unfolding AllHold figure audit_figures sample_key sample_roster sample_submission receipt_then_vote rule_of lowest lower clash charge stale_vote staler
    be number number_at same flat_map all every check refusal cluster replicas quorum key_of tree_type one_time_type every_replica sized typed single roster_number
    version1 rising name word record_count leader_count distance version runs runs_after leads leads_of slots receipts_of view laid_out record_size records_of
    certificates certificates_end stamps_at leaders_from stamps_from commit_from commit_of sized_submission versioned named counted commit_signers masks ordered
    one_each within form_of view_of slots_of validate signature_size signature_length path_at one_time_bytes row levels height
audit_figures_lem = (refl, (refl, (refl, (refl, (refl, (refl, (refl, (refl, (refl, (refl, (refl, tt)))))))))))

pub marked_figures_lem : AllHold marked_figures
unfolding marked_figures
marked_figures_lem = both signature_figures audit_figures signature_figures_lem audit_figures_lem
