-- Worked examples of a run: the number, every byte of the report and what is kept; which pairs there are; and which fork is the first.
-- Assumes nothing.
use mathlib.Core.Path.{◌≡◌, refl, ap}
use mathlib.Core.Bool.{Bool, cond}
use mathlib.Core.List.{List, [], ◌∷◌, ◌++◌, flat_map, sum}
use Prim.Native.Nat.{ℕ}
use borrow.Author.Tests.{eq-eqb, ne_eqb}
use lib.ListN.{replicate}
use Rattle.words.specs.BigEndian.{number, be, number_at, same}
use Rattle.words.specs.Over.{over}
use Rattle.refusal.specs.Checks.{all, every, check, refusal, first}
use Rattle.lm_digits.specs.Parameters.{row}
use Rattle.lm_format.specs.Format.{height, signature_length, path_at, one_time_bytes}
use Rattle.roster.specs.Roster.{cluster, replicas, key_of, tree_type, one_time_type, levels, signature_size, every_replica, sized, typed, single, roster_number}
use Rattle.log_chain.specs.Log.{version1}
use Rattle.log_chain.specs.Ends.{rising}
use Rattle.log_chain.specs.Runs.{runs, runs_after}
use Rattle.log_chain.specs.Records.{record_size, records_of}
use Rattle.log_chain.specs.Difference.{differ_at}
use Rattle.submission.specs.Trailer.{name, word, record_count, leader_count, distance, version}
use Rattle.submission.specs.View.{leads, leads_of, committed, committed_by, slots, receipts_of}
use Rattle.submission.specs.Reading.{view, laid_out, certificates, certificates_end, stamps_at, leaders_from, stamps_from, commit_from, commit_of}
use Rattle.submission.specs.Validate.{sized as sized_submission, versioned, named, counted as counted_submission, commit_signers, masks, ordered, one_each, within, uses, form_of, view_of, slots_of, validate}
use Rattle.forensics.specs.Findings.{fork, says, charges, leaf_charges, all_charges, lowest, rows_from, bit, mask_of, findings, found_in}
use Rattle.report.specs.Figures.{sample_key, sample_roster, sample_submission}
use Rattle.report.proofs.Premises.{three}
use Rattle.district_parts.specs.Parts.{parts, counted, total, adds_up}
use Rattle.std.specs.Prelude.{Option, Some}
use Rattle.district.specs.declared.Fork.{Fork}
use Rattle.district.specs.District.{Entry, entry, accepted_from, accepted, Pair, pair, pairs, found, union, first_fork, shown, district_number, number_bytes, fork_bytes, tail_bytes, district_bytes, district_after}

-- number and buffer afterwards, from a report of so many bytes of 9
ran : List ℕ → List ℕ → List ℕ → ℕ → List ℕ
ran roster buffer lengths room = district_number roster buffer lengths (replicate room 9) ∷ district_after roster buffer lengths (replicate room 9)

-- nothing is written
unwritten : ℕ → ℕ → List ℕ
unwritten number room = number ∷ replicate room 9

-- two empty logs with a submission of no bytes between them: its own number is 5, nobody is named, no pair forks, and two bytes are kept
written : ran three (sample_submission ++ sample_submission) (44 ∷ 0 ∷ 44 ∷ []) 9 ≡ 0 ∷ (0 ∷ 5 ∷ 0 ∷ [] ++ replicate 4 0 ++ (9 ∷ 9 ∷ []))
unfolding three ran district_number district_after district_bytes number_bytes tail_bytes fork_bytes over first parts counted total sum adds_up entry accepted_from accepted pair pairs found union first_fork
    shown sample_key sample_roster sample_submission found_in findings fork committed committed_by differ_at rows_from all_charges leaf_charges uses charges says lowest mask_of bit be number number_at same flat_map all every check
    refusal cluster replicas key_of tree_type one_time_type every_replica sized typed single roster_number version1 rising name word record_count leader_count distance version runs runs_after
    leads leads_of slots receipts_of view laid_out record_size records_of certificates certificates_end stamps_at leaders_from stamps_from commit_from commit_of sized_submission versioned named
    counted_submission commit_signers masks ordered one_each within form_of view_of slots_of validate signature_size signature_length path_at one_time_bytes row levels height
written = refl

-- each fault with all those after it: 2 and 4 for the roster, then 17, 18 and 1; a count of 10 and a report a byte short too
orders : (ran [] (7 ∷ []) [] 0 ≡ unwritten 2 0) × (ran (sample_roster 3 (1 ∷ 2 ∷ 1 ∷ [])) (7 ∷ []) [] 0 ≡ unwritten 4 0) × (ran three (7 ∷ []) [] 0 ≡ unwritten 17 0)
    × (ran three [] (replicate 10 0) 14 ≡ unwritten 17 14) × (ran three (7 ∷ []) (0 ∷ 0 ∷ []) 0 ≡ unwritten 18 0) × (ran three [] (0 ∷ 0 ∷ []) 5 ≡ unwritten 1 5)
unfolding three ran unwritten district_number district_after first counted total sum adds_up sample_key sample_roster be number number_at same flat_map all every check refusal cluster replicas
    key_of tree_type one_time_type every_replica sized typed single roster_number row height
orders = (refl, refl, refl, refl, refl, refl)

-- of three accepted submissions every two, lower position first: the first with the last as well
every_two : (a b c : Entry) → pairs (a ∷ b ∷ c ∷ []) ≡ pair a b ∷ pair a c ∷ pair b c ∷ []
unfolding pairs
every_two a b c = refl

-- of two pairs that fork the first by position stays, whatever their indexes; a pair that does not fork is passed over
module _ (roster : List ℕ) (p q : Pair) where
  own : Option Fork
  own = Some (record { index = (found roster p).fork; lower = p.lower.position; higher = p.higher.position })

  own-or-later : Bool → Option Fork
  own-or-later none = cond none (first_fork roster (q ∷ [])) own

  first-stays : ((found roster p).fork ≡ 0 → ⊥) → ((found roster q).fork ≡ 0 → ⊥) → first_fork roster (p ∷ q ∷ []) ≡ own
  unfolding first_fork own-or-later own
  first-stays h k = ap own-or-later (ne_eqb (found roster p).fork 0 h)

  passed_over : (found roster p).fork ≡ 0 → first_fork roster (p ∷ q ∷ []) ≡ first_fork roster (q ∷ [])
  unfolding first_fork own-or-later own
  passed_over h = ap own-or-later (eq-eqb (found roster p).fork 0 h)

-- the tail: the union of two bytes, the lower position, the higher
tail : tail_bytes (record { named = 258; fork = Some (record { index = 7; lower = 3; higher = 5 }) }) ≡ 1 ∷ 2 ∷ 3 ∷ 5 ∷ []
unfolding tail_bytes fork_bytes be
tail = refl
