-- The premises of a district's fairness, met all at once: the example of the audit's (`report/proofs/Premises.antt`), its two submissions in a
-- run of three, with a refused one between them.
-- Assumes nothing.
use mathlib.Core.Path.{◌≡◌, refl}
use mathlib.Core.Bool.{false}
use mathlib.Core.List.{List, [], ◌∷◌, ◌++◌, map, flat_map, sum}
use Prim.Native.Nat.{ℕ}
use lib.Dec.{lit<}
use lib.ListN.{replicate}
use Rattle.words.specs.BigEndian.{number, be, number_at, same}
use Rattle.words.proofs.Bytes.{Bytes}
use Rattle.refusal.specs.Checks.{all, every, check, refusal, first}
use Rattle.lm_digits.specs.Parameters.{row}
use Rattle.lm_format.specs.Format.{height, signature_length, path_at, one_time_bytes}
use Rattle.roster.specs.Roster.{cluster, replicas, key_of, tree_type, one_time_type, levels, signature_size, every_replica, sized, typed, single, roster_number}
use Rattle.roster.specs.Masks.{signer}
use Rattle.log_chain.specs.Log.{version1}
use Rattle.log_chain.specs.Ends.{rising}
use Rattle.log_chain.specs.Runs.{runs, runs_after}
use Rattle.log_chain.specs.Records.{record_size, records_of}
use Rattle.submission.specs.Trailer.{name, word, record_count, leader_count, distance, version}
use Rattle.submission.specs.View.{leads, leads_of, slots, receipts_of}
use Rattle.submission.specs.Reading.{view, laid_out, certificates, certificates_end, stamps_at, leaders_from, stamps_from, commit_from, commit_of}
use Rattle.submission.specs.Validate.{sized as sized_submission, versioned, named, counted as counted_submission, commit_signers, masks, ordered, one_each, within, form_of, view_of, slots_of, validate}
use Rattle.report.specs.Claims.{Fair}
use Rattle.report.specs.Figures.{sample_key, sample_roster, sample_submission}
use Rattle.report.proofs.Premises.{three, acts, both, kept, own, apart, a_replica, tested}
use Rattle.district_parts.specs.Parts.{parts, counted, total, adds_up}
use Rattle.district.specs.District.{entry, accepted_from, accepted, district_number, district_after, named_among}
use Rattle.district.specs.Claims.{DistrictFairness}
use Rattle.district.proofs.Demand3.{district-fairness}

buffer : List ℕ
buffer = sample_submission ++ sample_submission

sizes : List ℕ
sizes = 44 ∷ 0 ∷ 44 ∷ []

room : List ℕ
room = replicate 7 0

-- the run has number 0
accepted-run : district_number three buffer sizes room ≡ 0
unfolding three buffer sizes room district_number first counted total sum adds_up sample_key sample_roster sample_submission be number number_at same flat_map all every check refusal cluster replicas
    key_of tree_type one_time_type every_replica sized typed single roster_number row height
accepted-run = refl

-- its accepted submissions are the example's two
accepted_both : map (λ e. e.bytes) (accepted three (parts sizes buffer)) ≡ both
unfolding three buffer sizes both parts entry accepted_from accepted sample_key sample_roster sample_submission be number number_at same flat_map all every check refusal cluster replicas key_of
    tree_type version1 rising name word record_count leader_count distance version runs runs_after leads leads_of slots receipts_of view laid_out record_size records_of certificates
    certificates_end stamps_at leaders_from stamps_from commit_from commit_of sized_submission versioned named counted_submission commit_signers masks ordered one_each within form_of view_of
    slots_of validate signature_size signature_length path_at one_time_bytes row levels height
accepted_both = refl

bytes : Bytes buffer
unfolding buffer sample_submission be flat_map every
bytes = tested _ refl

-- so replica 1 is not named
not_named : signer (named_among 3 (district_after three buffer sizes room)) 1 ≡ false
unfolding DistrictFairness Fair sizes
not_named =
    (rw accepted_both at (district-fairness three buffer sizes room bytes accepted-run 1 (lit< tt) a_replica acts kept)) own apart
