-- Worked examples: the two forks of document 01, "Bench figures", its "Faults a bench would miss", which charge a row takes, and rule 5. Signatures
-- matter to rule 5 alone and are left empty elsewhere.
-- Assumes nothing.
use mathlib.Core.Path.{◌≡◌, refl}
use mathlib.Core.List.{List, [], ◌∷◌, flat_map, map}
use mathlib.Core.Option.{Option, some, none}
use Prim.Native.Nat.{ℕ}
use lib.ListN.{replicate, get_or}
use Rattle.words.specs.BigEndian.{same}
use Rattle.refusal.specs.Checks.{all}
use Rattle.lm_format.specs.Leaf.{same_leaf, leaf_number}
use Rattle.lm_format.specs.Uses.{use_of, reused}
use Rattle.roster.specs.Masks.{replicas_from, replicas_of}
use Rattle.log_chain.specs.Log.{Record, term_from, last_term}
use Rattle.log_chain.specs.Claim.{Claim, stamped, received, voted}
use Rattle.log_chain.specs.Ends.{staler}
use Rattle.replica.specs.Replica.{same_request}
use Rattle.replica.specs.Charges.{Charge, charge, clash, two_votes, two_stamps, stale_vote, leaf_clash}
use Rattle.log_chain.specs.Difference.{agree, same_record}
use Rattle.log_chain.specs.Runs.{run, runs_from, runs, runs_after}
use Rattle.submission.specs.View.{Certificate, View, leads_of, leads, committed_by, committed, Slot, slot, certified, votes_of, stamp_of, receipts_of, slots}
use Rattle.submission.specs.Validate.{uses}
use Rattle.log_chain.specs.Difference.{differ_at}
use Rattle.forensics.specs.Findings.{fork, says, charges, leaf_charges, all_charges, rank, sooner, lower, lowest, rows_from, bit, mask_of, Findings, findings}
use Rattle.forensics.proofs.Order.{sooner_before, lower_before, lowest_before}

-- a record of a term, with one byte of its payload digest
of : ℕ → ℕ → Record
of t x = record { term = t; digest = x ∷ replicate 31 0 }

-- a leader certificate: last pointer, candidate, term, last term, last index, signers
elected_on : List ℕ → ℕ → ℕ → ℕ → ℕ → ℕ → Certificate
elected_on pointer candidate t u j mask =
    record { ballot = record { candidate = candidate; term = t; last_term = u; last_index = j; last_pointer = pointer }; signers = mask; signatures = [] }

elected : ℕ → ℕ → ℕ → ℕ → ℕ → Certificate
elected = elected_on []

-- a log with its leaders, and the commit's index and signers
with_commit : List Record → List Certificate → ℕ → ℕ → View
with_commit log leaders index mask =
    record { log = log; leaders = leaders; stamps = map (λ (c : Certificate). []) leaders; commit = some (record { index = index; signers = mask; signatures = [] }) }

without : List Record → List Certificate → View
without log leaders = record { log = log; leaders = leaders; stamps = map (λ (c : Certificate). []) leaders; commit = none }

row : ℕ → ℕ → Option Charge
row rule term = some (record { rule = rule; term = term })

-- what is found: the fork, and the rows of replicas 1 to 3; replicas 4 to 9 have none
found : ℕ → Option Charge → Option Charge → Option Charge → Findings
found i x y z = record { fork = i; rows = x ∷ y ∷ z ∷ replicate 6 none }

-- one leaf and one message for all signatures, so that rule 5 charges nobody
shown : View → View → Findings
shown a b = findings (λ x. use_of 0 []) 0 a b

-- ---- document 01's forks, with three replicas

-- one leader, two records of term 1: `fork 1`, `board 1 rule 2 term 1`
one_leader : shown (with_commit (of 1 1 ∷ []) (elected 1 1 0 0 0b011 ∷ []) 1 0b011) (with_commit (of 1 2 ∷ []) (elected 1 1 0 0 0b011 ∷ []) 1 0b101)
    ≡ found 1 (row 2 1) none none
unfolding shown findings found row with_commit elected elected_on of fork committed committed_by differ_at slots leads leads_of runs runs_after runs_from run votes_of stamp_of receipts_of certified slot replicas_of
    replicas_from last_term term_from flat_map rows_from all_charges leaf_charges uses leaf_clash reused same_leaf leaf_number use_of charges says clash charge two_votes same_request all two_stamps stale_vote staler agree same_record same lowest lower sooner rank
one_leader = refl

first-log : View
first-log = with_commit (of 1 1 ∷ []) (elected 1 1 0 0 0b011 ∷ []) 1 0b011

second-log : View
second-log = with_commit (of 2 2 ∷ []) (elected 3 2 0 0 0b110 ∷ []) 1 0b110

-- a leader elected on an empty log after a commit: `fork 1`, `board 2 rule 3 term 2`; exchanged, rule 4. Of the two quorums only replica 2
-- signed both certificates, and nobody else is charged
stale_leader : (shown first-log second-log ≡ found 1 none (row 3 2) none) × (shown second-log first-log ≡ found 1 none (row 4 2) none)
unfolding shown findings found row first-log second-log with_commit elected elected_on of fork committed committed_by differ_at slots leads leads_of runs runs_after runs_from run votes_of stamp_of receipts_of certified
    slot replicas_of replicas_from last_term term_from flat_map rows_from all_charges leaf_charges uses leaf_clash reused same_leaf leaf_number use_of charges says clash charge two_votes same_request all two_stamps stale_vote staler agree same_record same lowest lower sooner rank
stale_leader = (refl, refl)

-- ---- faults that a bench would miss: nobody is charged

-- a log that is a beginning of the other, so that the last stamps' pointers differ
beginning : shown (with_commit (of 1 1 ∷ []) (elected 1 1 0 0 0b011 ∷ []) 1 0b011) (with_commit (of 1 1 ∷ of 1 2 ∷ []) (elected 1 1 0 0 0b011 ∷ []) 2 0b011)
    ≡ found 0 none none none
unfolding shown findings found with_commit elected elected_on of fork committed committed_by differ_at slots leads leads_of runs runs_after runs_from run votes_of stamp_of receipts_of certified slot replicas_of
    replicas_from last_term term_from flat_map rows_from all_charges leaf_charges uses leaf_clash reused same_leaf leaf_number use_of charges says clash charge two_votes same_request all two_stamps stale_vote staler agree same_record same lowest lower sooner rank
beginning = refl

-- term before index: replica 2 gave a receipt for (1, 2) and voted on (2, 1), whose index is lower and whose term is higher, and is not charged. Replica
-- 1 voted on the empty log after its receipt, and is
term-first : shown (with_commit (of 1 1 ∷ of 1 2 ∷ []) (elected 1 1 0 0 0b011 ∷ []) 2 0b011) (without (of 2 1 ∷ of 3 1 ∷ []) (elected 3 2 0 0 0b101 ∷ elected 3 3 2 1 0b110 ∷ []))
    ≡ found 0 (row 3 2) none none
unfolding shown findings found row with_commit without elected elected_on of fork committed committed_by differ_at slots leads leads_of runs runs_after runs_from run votes_of stamp_of receipts_of certified slot replicas_of
    replicas_from last_term term_from flat_map rows_from all_charges leaf_charges uses leaf_clash reused same_leaf leaf_number use_of charges says clash charge two_votes same_request all two_stamps stale_vote staler agree same_record same lowest lower sooner rank
term-first = refl

-- one leader's stamps in two different terms, on different logs
two_terms : shown (without (of 1 1 ∷ []) (elected 1 1 0 0 0b011 ∷ [])) (without (of 2 2 ∷ []) (elected 1 2 0 0 0b011 ∷ [])) ≡ found 0 none none none
unfolding shown findings found without elected elected_on of fork committed committed_by differ_at slots leads leads_of runs runs_after runs_from run votes_of stamp_of receipts_of certified slot replicas_of
    replicas_from last_term term_from flat_map rows_from all_charges leaf_charges uses leaf_clash reused same_leaf leaf_number use_of charges says clash charge two_votes same_request all two_stamps stale_vote staler agree same_record same lowest lower sooner rank
two_terms = refl

-- ---- forks and rows

-- logs that differ past the lower commit, or with one commit alone, do not fork; the lowest difference counts
forks : (let a = of 1 1 ∷ of 1 2 ∷ of 1 3 ∷ [] in let b = of 1 1 ∷ of 1 4 ∷ of 1 5 ∷ [] in
    (fork (with_commit a [] 1 0) (with_commit b [] 3 0) ≡ 0) × (fork (with_commit a [] 3 0) (without b []) ≡ 0)
    × (fork (with_commit a [] 3 0) (with_commit b [] 3 0) ≡ 2) × (fork (with_commit a [] 2 0) (with_commit (of 2 1 ∷ []) [] 1 0) ≡ 1))
unfolding fork with_commit without of committed committed_by differ_at same_record same
forks = (refl, refl, refl, refl)

-- of the rules the first in the order 2, 1, 3, 4, 5, then the lowest term of that rule: rules 2 and 1 in one term, then in two, the lower term with
-- either; each of the others against those after it, whatever their terms. None, and the mask
rows : (let c : ℕ → ℕ → Charge = λ rule term. record { rule = rule; term = term } in
    (lowest (c 1 4 ∷ c 2 4 ∷ []) ≡ row 2 4) × (lowest (c 1 3 ∷ c 2 9 ∷ c 1 2 ∷ c 2 8 ∷ []) ≡ row 2 8) × (lowest (c 2 3 ∷ c 1 9 ∷ []) ≡ row 2 3)
    × (lowest (c 3 1 ∷ c 2 9 ∷ c 2 7 ∷ c 4 1 ∷ c 5 0 ∷ []) ≡ row 2 7) × (lowest (c 5 0 ∷ c 4 1 ∷ c 3 1 ∷ c 1 9 ∷ c 1 8 ∷ []) ≡ row 1 8)
    × (lowest (c 4 2 ∷ c 5 0 ∷ c 3 5 ∷ []) ≡ row 3 5) × (lowest (c 5 0 ∷ c 4 7 ∷ []) ≡ row 4 7) × (lowest [] ≡ none)
    × (mask_of (none ∷ row 2 7 ∷ none ∷ row 3 5 ∷ []) ≡ 0b1010))
unfolding row lowest lower sooner rank staler mask_of bit
rows = (refl, refl, refl, refl, refl, refl, refl, refl, refl)

-- by the former order a row of rules 1 and 2 has rule 1; one of rules 2 to 5 is the same
former_rows : (let c : ℕ → ℕ → Charge = λ rule term. record { rule = rule; term = term } in
    (lowest_before (c 1 3 ∷ c 2 9 ∷ c 1 2 ∷ c 2 8 ∷ []) ≡ row 1 2) × (lowest_before (c 3 1 ∷ c 2 9 ∷ c 2 7 ∷ c 4 1 ∷ c 5 0 ∷ []) ≡ row 2 7))
unfolding row lowest_before lower_before sooner_before staler
former_rows = (refl, refl)

-- replica 1 votes for two candidates in term 1 and stamps two logs in term 2; replicas 2 and 3 do no wrong
votes_and_stamps : shown (with_commit (of 1 1 ∷ of 2 2 ∷ []) (elected 2 1 0 0 0b011 ∷ elected_on (1 ∷ []) 1 2 1 1 0b011 ∷ []) 2 0b011)
    (with_commit (of 1 3 ∷ of 2 4 ∷ []) (elected 3 1 0 0 0b101 ∷ elected_on (3 ∷ []) 1 2 1 1 0b101 ∷ []) 2 0b101)
    ≡ found 1 (row 2 2) none none
unfolding shown findings found row with_commit elected elected_on of fork committed committed_by differ_at slots leads leads_of runs runs_after runs_from run votes_of stamp_of receipts_of certified slot replicas_of
    replicas_from last_term term_from flat_map rows_from all_charges leaf_charges uses leaf_clash reused same_leaf leaf_number use_of charges says clash charge two_votes same_request all two_stamps stale_vote staler agree same_record same lowest lower sooner rank
votes_and_stamps = refl

-- votes of one term for different candidates: only the replica that signed both certificates is charged
two_candidates : shown (without (of 4 1 ∷ []) (elected 1 4 0 0 0b011 ∷ [])) (without (of 4 2 ∷ []) (elected 2 4 0 0 0b110 ∷ []))
    ≡ found 0 none (row 1 4) none
unfolding shown findings found row without elected elected_on of fork committed committed_by differ_at slots leads leads_of runs runs_after runs_from run votes_of stamp_of receipts_of certified slot replicas_of
    replicas_from last_term term_from flat_map rows_from all_charges leaf_charges uses leaf_clash reused same_leaf leaf_number use_of charges says clash charge two_votes same_request all two_stamps stale_vote staler agree same_record same lowest lower sooner rank
two_candidates = refl

-- two terms, the second with this leader certificate
led_by : Certificate → View
led_by c = without (of 3 0 ∷ of 4 1 ∷ []) (elected 1 3 0 0 0b011 ∷ c ∷ [])

-- votes of one term for one candidate and two requests, whose last pointer, last index or last term alone is another: only those who signed both
-- certificates are charged. One request in both charges nobody, whoever signed
two_requests_lem : (let a = led_by (elected_on (7 ∷ []) 3 4 3 1 0b110) in
    (shown a (led_by (elected_on (8 ∷ []) 3 4 3 1 0b111)) ≡ found 0 none (row 1 4) (row 1 4))
    × (shown a (led_by (elected_on (7 ∷ []) 3 4 3 2 0b011)) ≡ found 0 none (row 1 4) none)
    × (shown a (led_by (elected_on (7 ∷ []) 3 4 2 1 0b101)) ≡ found 0 none none (row 1 4))
    × (shown a (led_by (elected_on (7 ∷ []) 3 4 3 1 0b111)) ≡ found 0 none none none))
unfolding shown findings found row led_by without elected elected_on of fork committed committed_by differ_at slots leads leads_of runs runs_after runs_from run votes_of stamp_of receipts_of certified slot replicas_of
    replicas_from last_term term_from flat_map rows_from all_charges leaf_charges uses leaf_clash reused same_leaf leaf_number use_of charges says clash charge two_votes same_request all two_stamps stale_vote staler agree same_record same lowest lower sooner rank
two_requests_lem = (refl, refl, refl, refl)

-- ---- rule 5

-- a signature is one byte here, its leaf; a message has the kind, the term and the payload digests
message : Claim → List ℕ
message (stamped t log) = 1 ∷ t ∷ flat_map (λ (r : Record). r.digest) log
message (received t log) = 2 ∷ t ∷ flat_map (λ (r : Record). r.digest) log
message (voted b) = 3 ∷ b.term ∷ []

leaves_shown : View → View → Findings
leaves_shown a b = findings (λ (x : Slot). use_of (get_or x.signature 0 0) (message x.claim)) 1 a b

-- a committed record of term 1, with the leaves of replica 1's vote, stamp and receipt, then of replica 2's vote and receipt
leaves : ℕ → ℕ → ℕ → ℕ → ℕ → ℕ → View
leaves x vote stamp receipt vote₂ receipt₂ =
    record {
      log = of 1 x ∷ [];
      leaders = record { ballot = (elected 1 1 0 0 0b011).ballot; signers = 0b011; signatures = vote ∷ vote₂ ∷ [] } ∷ [];
      stamps = (stamp ∷ []) ∷ [];
      commit = some (record { index = 1; signers = 0b011; signatures = receipt ∷ receipt₂ ∷ [] });
    }

-- nobody: the same leaves for the same messages in both; leaves 0 and 1 of two replicas, for different messages; another leaf for the same message
one-message : (let a = leaves 1 0 1 2 1 0 in (leaves_shown a a ≡ found 0 none none none) × (leaves_shown a (leaves 1 5 6 7 5 6) ≡ found 0 none none none))
unfolding leaves_shown leaves message findings found elected elected_on of fork committed committed_by differ_at slots leads leads_of runs runs_after runs_from run votes_of stamp_of receipts_of certified slot
    replicas_of replicas_from last_term term_from flat_map rows_from all_charges leaf_charges uses leaf_clash reused same_leaf leaf_number use_of charges says clash charge two_votes same_request all two_stamps stale_vote staler agree same_record same lowest lower sooner rank
one-message = (refl, refl)

-- a leaf used twice inside the first submission, inside the second, across the two, whichever comes first; leaf 0, and its bit; of two such leaves the lower,
-- whose signatures stand later; one of each of two replicas
two_messages : (let a = leaves 1 0 1 2 1 0 in (leaves_shown (leaves 1 0 5 5 1 0) a ≡ found 0 (row 5 5) none none)
    × (leaves_shown a (leaves 1 0 5 5 1 0) ≡ found 0 (row 5 5) none none)
    × (leaves_shown a (leaves 1 0 7 1 1 0) ≡ found 0 (row 5 1) none none) × (leaves_shown (leaves 1 0 7 1 1 0) a ≡ found 0 (row 5 1) none none)
    × (leaves_shown a (leaves 1 8 0 2 1 0) ≡ found 0 (row 5 0) none none) × (mask_of (leaves_shown a (leaves 1 8 0 2 1 0)).rows ≡ 0b001)
    × (leaves_shown (leaves 1 9 9 3 1 0) (leaves 1 8 3 4 1 0) ≡ found 0 (row 5 3) none none)
    × (leaves_shown a (leaves 1 0 5 5 6 6) ≡ found 0 (row 5 5) (row 5 6) none))
unfolding leaves_shown leaves message findings found row elected elected_on of fork committed committed_by differ_at slots leads leads_of runs runs_after runs_from run votes_of stamp_of receipts_of certified slot
    replicas_of replicas_from last_term term_from flat_map rows_from all_charges leaf_charges uses leaf_clash reused same_leaf leaf_number use_of charges says clash charge two_votes same_request all two_stamps stale_vote staler agree same_record same lowest lower sooner rank mask_of bit
two_messages = (refl, refl, refl, refl, refl, refl, refl, refl)

-- another rule comes before it: replica 1 stamped two logs and gave receipts for both, each with one leaf. Replica 2 has given receipts alone
other-rule-first : leaves_shown (leaves 1 0 1 2 1 0) (leaves 2 0 1 2 1 0) ≡ found 1 (row 2 1) (row 5 0) none
unfolding leaves_shown leaves message findings found row elected elected_on of fork committed committed_by differ_at slots leads leads_of runs runs_after runs_from run votes_of stamp_of receipts_of certified slot
    replicas_of replicas_from last_term term_from flat_map rows_from all_charges leaf_charges uses leaf_clash reused same_leaf leaf_number use_of charges says clash charge two_votes same_request all two_stamps stale_vote staler agree same_record same lowest lower sooner rank
other-rule-first = refl
