-- Worked examples of the whole answer: the number, every byte of the report and what is kept, for accepted and for refused input.
-- Assumes nothing.
use mathlib.Core.Path.{◌≡◌, refl}
use mathlib.Core.List.{List, [], ◌∷◌, ◌++◌, flat_map}
use mathlib.Core.Option.{some, none}
use Prim.Native.Nat.{ℕ}
use lib.ListN.{replicate, drop}
use Rattle.words.specs.BigEndian.{number, be, number_at, same}
use Rattle.refusal.specs.Checks.{all, every, check, refusal}
use Rattle.lm_digits.specs.Parameters.{row}
use Rattle.lm_format.specs.Format.{height, signature_length, path_at, one_time_bytes}
use Rattle.roster.specs.Roster.{cluster, replicas, key_of, tree_type, one_time_type, levels, signature_size, every_replica, sized, typed, single, roster_number}
use Rattle.log_chain.specs.Log.{version1}
use Rattle.log_chain.specs.Ends.{rising}
use Rattle.submission.specs.Trailer.{name, word, record_count, leader_count, distance, version}
use Rattle.log_chain.specs.Runs.{runs, runs_after}
use Rattle.submission.specs.View.{leads, leads_of, committed, committed_by, slots, receipts_of}
use Rattle.submission.specs.Reading.{view, laid_out, certificates, certificates_end, stamps_at, leaders_from, stamps_from, commit_from, commit_of}
use Rattle.log_chain.specs.Records.{record_size, records_of}
use Rattle.submission.specs.Validate.{sized as sized_submission, versioned, named, counted, commit_signers, masks, ordered, one_each, within, uses, form_of, view_of, slots_of, validate}
use Rattle.log_chain.specs.Difference.{differ_at}
use Rattle.forensics.specs.Findings.{fork, says, charges, leaf_charges, all_charges, lowest, rows_from, bit, mask_of, findings, found_in}
use Rattle.report.specs.Report.{refused, answer, row_bytes, report_bytes, short, audit_number, report_after}
use Rattle.report.specs.Figures.{sample_key, sample_roster, sample_submission}

-- three replicas
three : List ℕ
three = sample_roster 3 (1 ∷ 2 ∷ 3 ∷ [])

-- number and buffer afterwards, from 55 bytes of 9
audited : List ℕ → List ℕ → List ℕ → List ℕ
audited roster s₁ s₂ = audit_number roster s₁ s₂ (replicate 55 9) ∷ report_after roster s₁ s₂ (replicate 55 9)

-- number and where, then zeros, then what was there
told : ℕ → ℕ → List ℕ
told number place = number ∷ number ∷ place ∷ replicate 51 0 ++ (9 ∷ 9 ∷ [])

-- accepted; the roster's refusal comes first, then the first submission's, then the second's
orders : (audited three sample_submission sample_submission ≡ told 0 0) × (audited [] [] [] ≡ told 2 0)
    × (audited (sample_roster 3 (1 ∷ 2 ∷ 1 ∷ [])) [] [] ≡ told 4 0) × (audited three (drop 1 sample_submission) [] ≡ told 5 1)
    × (audited three (replicate 44 0) [] ≡ told 6 1) × (audited three sample_submission (drop 1 sample_submission) ≡ told 5 2)
    × (audited three sample_submission (replicate 44 0) ≡ told 6 2)
unfolding three audited told audit_number report_after short answer refused report_bytes row_bytes sample_key sample_roster sample_submission found_in findings fork committed committed_by
    differ_at rows_from all_charges leaf_charges uses charges says lowest mask_of bit be number number_at same flat_map all every check refusal cluster replicas key_of tree_type one_time_type every_replica sized typed
    single roster_number version1 rising name word record_count leader_count distance version runs runs_after leads leads_of slots receipts_of view laid_out record_size records_of
    certificates certificates_end stamps_at leaders_from stamps_from commit_from commit_of sized_submission versioned named counted commit_signers masks ordered one_each within form_of
    view_of slots_of validate signature_size signature_length path_at one_time_bytes row levels height
orders = (refl, refl, refl, refl, refl, refl, refl)

-- 53 bytes are enough; with 52 the number is 1, before all others, and nothing is written
short_report : (audit_number [] [] [] (replicate 53 9) ≡ 2) × (audit_number [] [] [] (replicate 52 9) ≡ 1) × (report_after [] [] [] (replicate 52 9) ≡ replicate 52 9)
unfolding audit_number report_after short answer refused roster_number refusal check sized all replicas number_at number
short_report = (refl, refl, refl)

-- each row has its rule and its term, of four bytes
row-bytes : (row_bytes (some (record { rule = 3; term = 16909060 })) ≡ 3 ∷ 1 ∷ 2 ∷ 3 ∷ 4 ∷ []) × (row_bytes none ≡ replicate 5 0)
unfolding row_bytes be
row-bytes = (refl, refl)
