-- The premises of fairness, met all at once by one example: three replicas, two accepted submissions with empty logs, and a replica that raises its term, votes
-- twice with one leaf, adds a record, stamps it and gives a receipt for it. That rules out that `Fairness` holds only because nothing meets its premises: board rules that no such acts
-- keep, strings that are never apart, or one premise against another. It does not show more: no signature stands in these submissions, so that
-- `OwnSignatures` asks nothing here, and no replica is named.
-- Assumes nothing.
use mathlib.Core.Path.{◌≡◌, refl, sym, ◌∙◌}
use mathlib.Core.Bool.{true, false}
use mathlib.Core.List.Memᴰ
use mathlib.Core.List.{List, [], ◌∷◌, flat_map, Memᴰ}
use Prim.Native.Nat.{ℕ, ◌≤◌}
use borrow.Author.Tests.{ltb-true}
use native.Mathlib.Omega.{arith}
use lib.Dec.{ltb, lit<, lit≤}
use lib.ListN.{replicate}
use Rattle.words.specs.BigEndian.{number, be, number_at, same}
use Rattle.words.proofs.Bytes.{Bytes, none, more}
use Rattle.words.proofs.Same.{same_true}
use Rattle.refusal.specs.Checks.{all, every, check, refusal}
use Rattle.refusal.proofs.Laws.{cond-true, every-mem}
use Rattle.lm_digits.specs.Parameters.{row}
use Rattle.lm_format.specs.Format.{height, signature_length, path_at, one_time_bytes}
use Rattle.lm_format.specs.Leaf.{same_leaf}
use Rattle.lm_format.specs.Uses.{use_of, reused}
use Rattle.roster.specs.Roster.{cluster, replicas, key_of, tree_type, one_time_type, levels, signature_size, every_replica, sized, typed, single, roster_number}
use Rattle.roster.specs.Masks.{signer}
use Rattle.log_chain.specs.Log.{version1, Record, chain_string, chain_from, chain_strings, term_from, last_term}
use Rattle.log_chain.specs.Claim.{Ballot, ballot_bytes, say}
use Rattle.log_chain.specs.Apart.{Apart}
use Rattle.log_chain.specs.Ends.{rising, staler}
use Rattle.replica.specs.Replica.{signing, Act, raise, vote, run, add, stamp, receipt, decline, restart, first, fits_term, fits_index, fits_records, same_request, one_request, no_stamp, no_staler, rules, signs, use_in, one_message, leaf_rule, allowed, moved, after, keeps, held}
use Rattle.submission.specs.Trailer.{name, word, record_count, leader_count, distance, version}
use Rattle.log_chain.specs.Runs.{runs, runs_after}
use Rattle.submission.specs.View.{leads, leads_of, slots, receipts_of}
use Rattle.submission.specs.Reading.{view, laid_out, certificates, certificates_end, stamps_at, leaders_from, stamps_from, commit_from, commit_of}
use Rattle.log_chain.specs.Records.{record_size, records_of}
use Rattle.submission.specs.Validate.{sized as sized_submission, versioned, named, counted, commit_signers, masks, ordered, one_each, within, form_of, view_of, slots_of, validate}
use Rattle.report.specs.Report.{short, answer, audit_number, report_after, named_in}
use Rattle.report.specs.Claims.{OwnSignatures, strings_in, strings, Fair, Fairness}
use Rattle.report.specs.Figures.{sample_key, sample_roster, sample_submission}
use Rattle.report.proofs.Demand3.{fairness}

-- ---- the example

unfoldable pub three : List ℕ
three = sample_roster 3 (1 ∷ 2 ∷ 3 ∷ [])

one : Record
one = record { term = 1; digest = replicate 32 0 }

ballot : Ballot
ballot = record { candidate = 3; term = 1; last_term = 0; last_index = 0; last_pointer = replicate 32 0 }

pub acts : List Act
acts =
    raise 1 ∷ vote 0 ballot ∷ vote 0 ballot ∷ add one ∷ run 0 (one ∷ []) ∷ stamp 1 ∷ stamp 2 ∷ receipt 3 1 ∷ decline ∷ restart ∷ []

unfoldable pub both : List (List ℕ)
both = sample_submission ∷ sample_submission ∷ []

buffer : List ℕ
buffer = replicate 53 0

-- the acts keep the rules
pub kept : keeps (form_of three) (replicas three) first acts ≡ true
unfolding three one ballot acts sample_roster sample_key be flat_map cluster replicas number_at number form_of version1 first keeps allowed all every rules signs signing use_in use_of reused same_leaf say ballot_bytes one_message leaf_rule moved after fits_term fits_index fits_records same_request one_request same no_stamp no_staler rising staler
    last_term term_from
kept = refl

-- no signature stands in the submissions
pub own : OwnSignatures three both 1 acts
unfolding OwnSignatures both three sample_roster sample_key sample_submission be number number_at flat_map cluster replicas key_of tree_type levels signature_size signature_length path_at one_time_bytes
    row height word record_count leader_count distance runs runs_after leads leads_of slots receipts_of view record_size records_of certificates certificates_end stamps_at leaders_from
    stamps_from commit_from commit_of form_of version1 view_of slots_of
own x m g = absurd (Memᴰ.not-nil m)

-- every string is its record's: no hash has to be computed
string : List ℕ
string = chain_string (form_of three) 1 one (replicate 32 0)

one_string : every (λ x. same x string) (strings three both acts) ≡ true
unfolding every same string strings strings_in both three one ballot acts sample_roster sample_key sample_submission be number number_at flat_map cluster key_of tree_type levels signature_size signature_length
    path_at one_time_bytes row height word record_count leader_count distance view record_size records_of certificates certificates_end stamps_at leaders_from stamps_from commit_from commit_of
    form_of version1 view_of first held moved after chain_strings chain_from chain_string
one_string = refl

alike : (x : List ℕ) → Memᴰ x (strings three both acts) → x ≡ string
alike x m = same_true x string (every-mem (λ x. same x string) _ one_string x m)

pub apart : Apart (strings three both acts) (strings three both acts)
unfolding Apart
apart x y mx my e = alike x mx ∙ sym (alike y my)

-- 53 bytes of report: the two are accepted
accepted : audit_number three sample_submission sample_submission buffer ≡ 0
unfolding three buffer audit_number short answer sample_key sample_roster sample_submission be number number_at same flat_map all every check refusal cluster replicas key_of tree_type
    one_time_type every_replica sized typed single roster_number version1 rising name word record_count leader_count distance version runs runs_after leads leads_of slots receipts_of view
    laid_out record_size records_of certificates certificates_end stamps_at leaders_from stamps_from commit_from commit_of sized_submission versioned named counted commit_signers masks ordered
    one_each within form_of view_of slots_of validate signature_size signature_length path_at one_time_bytes row levels height
accepted = refl

-- replica 1 is one of the three
pub a_replica : 1 ≤ replicas three
unfolding three sample_roster sample_key be flat_map replicas number_at number
a_replica = lit≤ tt

-- the submission's bytes are below 256
pub tested : (l : List ℕ) → every (λ b. ltb b 256) l ≡ true → Bytes l
unfolding every
tested [] e = none
tested (b ∷ l) e = let p = cond-true (ltb b 256) (every (λ b. ltb b 256) l) e in more (ltb-true b 256 p.0) (tested l p.1)

pub bytes : Bytes sample_submission
unfolding sample_submission be flat_map every
bytes = tested _ refl

-- all at once
premises_met : Bytes sample_submission × (audit_number three sample_submission sample_submission buffer ≡ 0) × (1 ≤ replicas three)
    × (keeps (form_of three) (replicas three) first acts ≡ true) × OwnSignatures three both 1 acts
    × Apart (strings three both acts) (strings three both acts)
premises_met = (bytes, accepted, a_replica, kept, own, apart)

-- and what fairness says then: replica 1 is not named
not_named : signer (named_in (report_after three sample_submission sample_submission buffer)) 1 ≡ false
unfolding Fairness Fair both
not_named =
    fairness three sample_submission sample_submission buffer bytes bytes (λ e. omega (arith, accepted, e)) 1 (lit< tt) a_replica acts kept own apart
