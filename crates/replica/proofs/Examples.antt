-- Worked examples of the board rules, of the leaf rule and of the charges: for each rule an act that is allowed and one that is not. They pin what
-- the proofs do not need.
-- Assumes nothing.
use mathlib.Core.Path.{◌≡◌, refl}
use mathlib.Core.Bool.{Bool, true, false}
use mathlib.Core.List.{List, [], ◌∷◌, ◌++◌}
use mathlib.Core.Option.{Option, some, none}
use Prim.Native.Nat.{ℕ}
use lib.ListN.{replicate}
use Rattle.words.specs.BigEndian.{be, same}
use Rattle.refusal.specs.Checks.{all, every}
use Rattle.lm_format.specs.Leaf.{same_leaf, leaf_number}
use Rattle.lm_format.specs.Uses.{use_of, reused}
use Rattle.lm_format.proofs.Uses.{not-reused}
use Rattle.log_chain.specs.Log.{Form, version1, Record, term_from, last_term}
use Rattle.log_chain.specs.Claim.{Ballot, Claim, stamped, received, voted, place, ballot_bytes, say}
use Rattle.log_chain.specs.Ends.{rising, staler}
use Rattle.replica.specs.Replica.{Signing, signing, State, Act, raise, vote, run, add, stamp, receipt, decline, restart, fits_term, fits_index, fits_records, same_request, one_request, no_stamp, no_staler, rules, signs, use_in, one_message, leaf_rule, allowed, first, moved, after, keeps, signed, held}
use Rattle.replica.specs.Charges.{charge, clash, two_votes, two_stamps, stale_vote, leaf_clash}
use Rattle.log_chain.specs.Difference.{agree, same_record}

-- a record of a term, with one byte of its payload digest
of : ℕ → ℕ → Record
of t x = record { term = t; digest = x ∷ replicate 31 0 }

ballot_on : List ℕ → ℕ → ℕ → ℕ → ℕ → Ballot
ballot_on pointer candidate t u j = record { candidate = candidate; term = t; last_term = u; last_index = j; last_pointer = pointer }

ballot : ℕ → ℕ → ℕ → ℕ → Ballot
ballot = ballot_on (replicate 32 0)

-- three replicas; term 4, a vote for replica 2 in it with leaf 7, records of terms 3 and 4
ready : Option ℕ → State
ready mark = record { term = 4; vote = some (ballot 2 4 3 1); stamp = mark; log = of 3 0 ∷ of 4 0 ∷ []; used = signing 7 (voted (ballot 2 4 3 1)) ∷ [] }

may : Option ℕ → Act → Bool
may mark a = allowed (version1 (replicate 16 0)) 3 (ready mark) a

-- its term may stay or rise, and does not fall; it fits four bytes
raises : (may none (raise 4) ≡ true) × (may none (raise 3) ≡ false) × (may none (raise 4294967296) ≡ false)
unfolding may ready signing of ballot ballot_on allowed all every rules signs one_message leaf_rule use_in use_of reused same_leaf same fits_term fits_index fits_records same_request one_request no_stamp no_staler last_term term_from rising staler version1
raises = (refl, refl, refl)

-- votes: term, candidate 1 to 3, one request a term, a log no staler (term first), fields that fit
votes : (may none (vote 0 (ballot 2 4 4 2)) ≡ false) × (may none (vote 0 (ballot 3 5 4 2)) ≡ true) × (may none (vote 0 (ballot 2 3 4 2)) ≡ false)
    × (may none (vote 0 (ballot 0 5 4 2)) ≡ false) × (may none (vote 0 (ballot 4 5 4 2)) ≡ false) × (may none (vote 0 (ballot 1 4 4 2)) ≡ false)
    × (may none (vote 0 (ballot 2 5 4 1)) ≡ false) × (may none (vote 0 (ballot 2 5 3 9)) ≡ false) × (may none (vote 0 (ballot 2 5 5 1)) ≡ true)
    × (may none (vote 0 (ballot 2 5 4 4294967296)) ≡ false)
    × (may none (vote 0 (ballot 2 4294967296 4 2)) ≡ false) × (may none (vote 0 (ballot 2 5 4294967296 2)) ≡ false)
unfolding may ready signing of ballot ballot_on allowed all every rules signs one_message leaf_rule use_in use_of reused same_leaf same fits_term fits_index fits_records same_request one_request no_stamp no_staler last_term term_from rising staler version1
votes = (refl, refl, refl, refl, refl, refl, refl, refl, refl, refl, refl, refl)

-- votes of one term are for one request. After a vote for replica 2 on (3, 1): the same again; not with another candidate, last term, last index or last
-- pointer, in its first byte or its last; all of these in the next term
again : Ballot → Bool
again b = allowed (version1 (replicate 16 0)) 3 (record { term = 4; vote = some (ballot 2 4 3 1); stamp = none; log = of 3 0 ∷ []; used = [] }) (vote 0 b)

requests : (again (ballot 2 4 3 1) ≡ true) × (again (ballot 1 4 3 1) ≡ false) × (again (ballot 2 4 4 1) ≡ false) × (again (ballot 2 4 3 2) ≡ false)
    × (again (ballot_on (1 ∷ replicate 31 0) 2 4 3 1) ≡ false) × (again (ballot_on (replicate 31 0 ++ (1 ∷ [])) 2 4 3 1) ≡ false)
    × (again (ballot 2 5 3 1) ≡ true) × (again (ballot 1 5 3 1) ≡ true) × (again (ballot 2 5 4 1) ≡ true) × (again (ballot 2 5 3 2) ≡ true)
    × (again (ballot_on (1 ∷ replicate 31 0) 2 5 3 1) ≡ true) × (again (ballot_on (replicate 31 0 ++ (1 ∷ [])) 2 5 3 1) ≡ true)
unfolding again of ballot ballot_on allowed all every rules signs one_message leaf_rule same fits_term fits_index same_request one_request no_staler last_term term_from staler version1
requests = (refl, refl, refl, refl, refl, refl, refl, refl, refl, refl, refl, refl)

-- runs: some records kept, one or more new, terms in order and above 0, the last of its own term, no staler, no stamp in this term
runs : (may none (run 1 (of 4 1 ∷ [])) ≡ true) × (may none (run 0 (of 4 1 ∷ of 4 2 ∷ [])) ≡ true) × (may none (run 3 (of 4 1 ∷ [])) ≡ false)
    × (may none (run 2 []) ≡ false) × (may none (run 0 (of 0 1 ∷ of 4 2 ∷ [])) ≡ false) × (may none (run 2 (of 3 1 ∷ of 4 2 ∷ [])) ≡ false)
    × (may none (run 1 (of 3 1 ∷ of 3 2 ∷ [])) ≡ false) × (may none (run 0 (of 4 1 ∷ [])) ≡ false) × (may (some 4) (run 1 (of 4 1 ∷ [])) ≡ false)
    × (may (some 3) (run 1 (of 4 1 ∷ [])) ≡ true)
unfolding may ready signing of ballot ballot_on allowed all every rules signs one_message leaf_rule use_in use_of reused same_leaf same fits_term fits_index fits_records same_request one_request no_stamp no_staler last_term term_from rising staler version1
runs = (refl, refl, refl, refl, refl, refl, refl, refl, refl, refl)

-- records added are of its own term; stamps are on its last record, of its own term; receipts on records of its own term
others : (may none (add (of 4 7)) ≡ true) × (may none (add (of 3 7)) ≡ false) × (may none (add (of 5 7)) ≡ false) × (may none (stamp 0) ≡ true)
    × (may none (receipt 0 2) ≡ true) × (may none (receipt 0 1) ≡ false) × (may none (receipt 0 0) ≡ false) × (may none (receipt 0 3) ≡ false)
unfolding may ready signing of ballot ballot_on allowed all every rules signs one_message leaf_rule use_in use_of reused same_leaf same fits_term fits_index fits_records same_request one_request no_stamp no_staler last_term term_from rising staler version1
others = (refl, refl, refl, refl, refl, refl, refl, refl)

-- at a term with a log, with no vote and no stamp: no stamp on an empty log or on another term's record, no record of term 0, a payload digest of 32
-- bytes; declining and restarting are always allowed
at : ℕ → List Record → Act → Bool
at t log a = allowed (version1 (replicate 16 0)) 3 (record { term = t; vote = none; stamp = none; log = log; used = [] }) a

edges : (at 0 [] (stamp 0) ≡ false) × (at 5 (of 4 0 ∷ []) (stamp 0) ≡ false) × (at 0 [] (add (of 0 7)) ≡ false) × (at 1 [] (add (of 1 7)) ≡ true)
    × (at 1 [] (add (record { term = 1; digest = replicate 31 0 })) ≡ false) × (at 0 [] decline ≡ true) × (at 0 [] restart ≡ true)
unfolding at of allowed all every rules signs one_message leaf_rule fits_term fits_index fits_records last_term term_from version1
edges = (refl, refl, refl, refl, refl, refl, refl)

-- document 01, worked figures of rule 3: after a receipt (term 3, index 7), a vote in term 5
stale : (stale_vote 3 (replicate 7 (of 3 0)) (ballot 1 5 3 6) ≡ true) × (stale_vote 3 (replicate 7 (of 3 0)) (ballot 1 5 3 7) ≡ false)
    × (stale_vote 3 (replicate 7 (of 3 0)) (ballot 1 5 4 1) ≡ false)
unfolding of ballot ballot_on stale_vote staler
stale = (refl, refl, refl)

-- not charged: a log that is a beginning of the other, stamps of two terms; charged: the rest
charges : (two_stamps 1 (of 1 0 ∷ []) 1 (of 1 0 ∷ of 1 1 ∷ []) ≡ false) × (two_stamps 1 (of 1 0 ∷ []) 2 (of 2 0 ∷ []) ≡ false)
    × (two_stamps 1 (of 1 0 ∷ []) 1 (of 1 1 ∷ of 1 1 ∷ []) ≡ true)
unfolding of two_stamps agree same_record same
charges = (refl, refl, refl)

-- not charged: the same vote, votes of two terms, whatever else differs; charged: votes of one term with another candidate, last term, last index or
-- last pointer, in its first byte or its last
vote-charges : (let a = ballot 1 4 3 1 in let b = ballot_on (1 ∷ replicate 31 0) 2 5 4 2 in
    (two_votes a a ≡ false) × (two_votes a (ballot 1 5 3 1) ≡ false) × (two_votes a b ≡ false) × (two_votes b a ≡ false)
    × (two_votes a (ballot 2 4 3 1) ≡ true) × (two_votes a (ballot 1 4 2 1) ≡ true) × (two_votes a (ballot 1 4 3 0) ≡ true)
    × (two_votes a (ballot_on (1 ∷ replicate 31 0) 1 4 3 1) ≡ true) × (two_votes (ballot_on (replicate 31 0 ++ (1 ∷ [])) 1 4 3 1) a ≡ true))
unfolding ballot ballot_on same all same_request two_votes
vote-charges = (refl, refl, refl, refl, refl, refl, refl, refl, refl)

-- the rules' numbers, and whose term a charge has: 1 two votes, 2 two stamps, 3 a receipt and a vote, 4 the same exchanged (5: `leaf-charges`)
rule_numbers : (let a = ballot 1 5 3 6 in let l = replicate 7 (of 3 0) in let m = replicate 7 (of 3 1) in
    (clash (voted a) (voted (ballot 2 5 3 6)) ≡ record { rule = 1; term = 5 } ∷ [])
    × (clash (stamped 4 l) (stamped 4 m) ≡ record { rule = 2; term = 4 } ∷ [])
    × (clash (received 3 l) (voted a) ≡ record { rule = 3; term = 5 } ∷ [])
    × (clash (voted a) (received 3 l) ≡ record { rule = 4; term = 5 } ∷ []))
unfolding of ballot ballot_on clash charge two_votes two_stamps stale_vote staler same_request all same agree same_record
rule_numbers = (refl, refl, refl, refl)

-- ---- what the rules leave open: acts that a stricter rule would forbid, and beside them some that are forbidden

-- the first vote of all, in term 0 too; a candidate whose last term is above the vote's; a vote after a stamp in the term, and the same again; the
-- largest numbers
stamped_at_4 : Option Ballot → Act → Bool
stamped_at_4 v a = allowed (version1 (replicate 16 0)) 3 (record { term = 4; vote = v; stamp = some 4; log = of 3 0 ∷ of 4 0 ∷ []; used = [] }) a

open_votes : (at 1 [] (vote 0 (ballot 1 1 0 0)) ≡ true) × (at 0 [] (vote 0 (ballot 3 0 0 0)) ≡ true) × (may none (vote 0 (ballot 2 5 9 1)) ≡ true)
    × (stamped_at_4 none (vote 0 (ballot 2 4 4 2)) ≡ true) × (stamped_at_4 (some (ballot 2 4 4 2)) (vote 0 (ballot 2 4 4 2)) ≡ true)
    × (may none (vote 0 (ballot 2 4294967295 4294967295 4294967295)) ≡ true) × (may none (raise 4294967295) ≡ true)
unfolding stamped_at_4 may at ready signing of ballot ballot_on allowed all every rules signs one_message leaf_rule use_in use_of reused same_leaf same fits_term fits_index fits_records same_request one_request no_stamp no_staler last_term term_from rising staler version1
open_votes = (refl, refl, refl, refl, refl, refl, refl)

-- a run that only adds, on an empty log too; one that ends in another term's record, above or below its own; a digest of 31 bytes
open_runs : (may none (run 2 (of 4 1 ∷ [])) ≡ true) × (at 1 [] (run 0 (of 1 1 ∷ [])) ≡ true) × (may none (run 2 (of 5 1 ∷ [])) ≡ false)
    × (at 5 (of 3 0 ∷ []) (run 1 (of 4 1 ∷ [])) ≡ false) × (may none (run 1 (record { term = 4; digest = replicate 31 0 } ∷ [])) ≡ false)
unfolding may at ready signing of ballot ballot_on allowed all every rules signs one_message leaf_rule use_in use_of reused same_leaf same fits_term fits_index fits_records same_request one_request no_stamp no_staler last_term term_from rising staler version1
open_runs = (refl, refl, refl, refl, refl)

-- after a stamp in the term: another stamp, a record, a receipt; a receipt for a record that is not the last; none for record 0
open_others : (may (some 4) (stamp 0) ≡ true) × (may (some 4) (add (of 4 7)) ≡ true) × (may (some 4) (receipt 0 2) ≡ true)
    × (at 4 (of 4 0 ∷ of 4 1 ∷ []) (receipt 0 1) ≡ true) × (at 0 [] (receipt 0 0) ≡ false)
unfolding may at ready signing of ballot ballot_on allowed all every rules signs one_message leaf_rule use_in use_of reused same_leaf same fits_term fits_index fits_records same_request one_request no_stamp no_staler last_term term_from rising staler version1
open_others = (refl, refl, refl, refl, refl)

-- ---- the leaf rule

-- the charge of two uses: rule 5 and the leaf's number, 0 too
leaf-charges : (leaf_clash (use_of 31 (1 ∷ [])) (use_of 31 (2 ∷ [])) ≡ record { rule = 5; term = 31 } ∷ [])
    × (leaf_clash (use_of 0 (1 ∷ [])) (use_of 0 (2 ∷ [])) ≡ record { rule = 5; term = 0 } ∷ [])
    × (leaf_clash (use_of 31 (1 ∷ [])) (use_of 31 (1 ∷ [])) ≡ []) × (leaf_clash (use_of 31 (1 ∷ [])) (use_of 30 (2 ∷ [])) ≡ [])
unfolding leaf_clash charge leaf_number reused use_of same_leaf same
leaf-charges = (refl, refl, refl, refl)

log : List Record
log = of 3 0 ∷ of 4 0 ∷ []

-- at term 4 with this log and a vote on it, after leaf 7 signed a claim
after-leaf : Claim → State
after-leaf c = record { term = 4; vote = some (ballot 2 4 4 2); stamp = none; log = log; used = signing 7 c ∷ [] }

may_sign : Claim → Act → Bool
may_sign c a = allowed (version1 (replicate 16 0)) 3 (after-leaf c) a

-- the same vote again with its leaf; not another vote, stamp or receipt with it; each of these with another leaf
leaf_of-vote : (let c = voted (ballot 2 4 4 2) in (may_sign c (vote 7 (ballot 2 4 4 2)) ≡ true)
    × (may_sign c (vote 7 (ballot 2 5 4 2)) ≡ false) × (may_sign c (vote 7 (ballot 3 5 4 2)) ≡ false)
    × (may_sign c (stamp 7) ≡ false) × (may_sign c (receipt 7 2) ≡ false) × (may_sign c (vote 8 (ballot 2 4 4 2)) ≡ true)
    × (may_sign c (vote 8 (ballot 2 5 4 2)) ≡ true) × (may_sign c (stamp 8) ≡ true) × (may_sign c (receipt 8 2) ≡ true))
unfolding may_sign after-leaf log signing of ballot ballot_on allowed all every rules signs one_message leaf_rule use_in use_of reused same_leaf say place ballot_bytes be same fits_term fits_index same_request one_request no_staler last_term term_from staler version1
leaf_of-vote = (refl, refl, refl, refl, refl, refl, refl, refl, refl)

-- bytes are compared, and not claims: of a term that does not fit its field the low bytes are signed
bytes_compared : may_sign (voted (ballot 2 4294967300 4 2)) (vote 7 (ballot 2 4 4 2)) ≡ true
unfolding may_sign after-leaf log signing of ballot ballot_on allowed all every rules signs one_message leaf_rule use_in use_of reused same_leaf say place ballot_bytes be same fits_term fits_index same_request one_request no_staler last_term term_from staler version1
bytes_compared = refl

-- a stamp and a receipt of the same fields are two messages; so are stamps, and receipts, of two terms or of two indexes
leaf_of-place : (may_sign (received 4 log) (stamp 7) ≡ false) × (may_sign (stamped 4 log) (receipt 7 2) ≡ false)
    × (may_sign (stamped 3 log) (stamp 7) ≡ false) × (may_sign (stamped 4 (of 4 0 ∷ [])) (stamp 7) ≡ false)
    × (may_sign (received 3 log) (receipt 7 2) ≡ false) × (may_sign (received 4 (of 4 0 ∷ [])) (receipt 7 2) ≡ false)
    × (may_sign (received 4 log) (stamp 8) ≡ true) × (may_sign (stamped 4 log) (receipt 8 2) ≡ true)
    × (may_sign (stamped 3 log) (stamp 8) ≡ true) × (may_sign (received 3 log) (receipt 8 2) ≡ true)
unfolding may_sign after-leaf log signing of ballot ballot_on allowed all every rules signs one_message leaf_rule use_in use_of reused same_leaf say place ballot_bytes be same fits_term fits_index same_request one_request no_staler last_term term_from staler version1
leaf_of-place = (refl, refl, refl, refl, refl, refl, refl, refl, refl, refl)

-- the same stamp, and the same receipt, again with its leaf: one message, whatever its pointer is
same_again : (form : Form) (x : Signing) → one_message form (x ∷ []) x ≡ true
unfolding one_message every
same_again form x = rw (not-reused (use_in form x) (use_in form x) (λ d. refl))

place_again : (may_sign (stamped 4 log) (stamp 7) ≡ true) × (may_sign (received 4 log) (receipt 7 2) ≡ true)
unfolding may_sign after-leaf log of allowed all every rules signs leaf_rule last_term term_from
place_again = (rw (same_again _ _), rw (same_again _ _))

-- over a list of acts: a leaf two acts later, after a restart, for another message or for the same; another leaf
told_leaves : (let keep = keeps (version1 (replicate 16 0)) 3 first in let b = ballot 2 1 0 0 in
    (keep (vote 4 b ∷ restart ∷ add (of 1 1) ∷ stamp 4 ∷ []) ≡ false) × (keep (vote 4 b ∷ restart ∷ add (of 1 1) ∷ stamp 5 ∷ []) ≡ true)
    × (keep (vote 4 b ∷ restart ∷ add (of 1 1) ∷ receipt 4 1 ∷ []) ≡ false) × (keep (vote 4 b ∷ restart ∷ vote 4 (ballot 2 2 0 0) ∷ []) ≡ false)
    × (keep (vote 4 b ∷ restart ∷ vote 4 b ∷ []) ≡ true) × (keep (vote 4 b ∷ vote 5 b ∷ raise 2 ∷ vote 4 (ballot 2 2 0 0) ∷ []) ≡ false))
unfolding signing of ballot ballot_on first keeps moved after allowed all every rules signs one_message leaf_rule use_in use_of reused same_leaf say place ballot_bytes be same fits_term fits_index fits_records same_request one_request no_staler last_term term_from staler version1
told_leaves = (refl, refl, refl, refl, refl, refl)

-- ---- states, statements, logs

-- the first state; and what each act leaves of a state: term, vote, stamp, log, leaves used
begins : first ≡ record { term = 0; vote = none; stamp = none; log = []; used = [] }
unfolding first
begins = refl

leaves : (let s = ready (some 3) in (after s (raise 6) ≡ record { term = 6; vote = s.vote; stamp = s.stamp; log = s.log; used = s.used })
    × (after s (vote 8 (ballot 3 5 4 2))
    ≡ record { term = 5; vote = some (ballot 3 5 4 2); stamp = s.stamp; log = s.log; used = signing 8 (voted (ballot 3 5 4 2)) ∷ s.used })
    × (after s (run 1 (of 4 1 ∷ of 4 2 ∷ []))
    ≡ record { term = 4; vote = s.vote; stamp = s.stamp; log = of 3 0 ∷ of 4 1 ∷ of 4 2 ∷ []; used = s.used })
    × (after s (add (of 4 7)) ≡ record { term = 4; vote = s.vote; stamp = s.stamp; log = of 3 0 ∷ of 4 0 ∷ of 4 7 ∷ []; used = s.used })
    × (after s (stamp 8) ≡ record { term = 4; vote = s.vote; stamp = some 4; log = s.log; used = signing 8 (stamped 4 s.log) ∷ s.used })
    × (after s (receipt 8 1)
    ≡ record { term = 4; vote = s.vote; stamp = s.stamp; log = s.log; used = signing 8 (received 4 (of 3 0 ∷ [])) ∷ s.used })
    × (after s decline ≡ s) × (after s restart ≡ s))
unfolding moved after signs ready of ballot ballot_on
leaves = (refl, refl, refl, refl, refl, refl, refl, refl)

-- each act in one story, the vote twice and with one leaf: what is signed, and the logs held, with the first and the last
story : List Act
story =
    vote 0 (ballot 2 1 0 0) ∷ vote 0 (ballot 2 1 0 0) ∷ run 0 (of 1 1 ∷ of 1 2 ∷ []) ∷ receipt 1 1 ∷ decline ∷ raise 2 ∷ add (of 2 3) ∷ stamp 2 ∷ restart ∷ []

told : (let l = of 1 1 ∷ of 1 2 ∷ [] in let m = of 1 1 ∷ of 1 2 ∷ of 2 3 ∷ [] in (keeps (version1 (replicate 16 0)) 3 first story ≡ true)
    × (signed first story
    ≡ signing 0 (voted (ballot 2 1 0 0)) ∷ signing 0 (voted (ballot 2 1 0 0)) ∷ signing 1 (received 1 (of 1 1 ∷ [])) ∷ signing 2 (stamped 2 m) ∷ [])
    × (held first story ≡ [] ∷ [] ∷ [] ∷ l ∷ l ∷ l ∷ l ∷ m ∷ m ∷ m ∷ []))
unfolding story signing of ballot ballot_on first keeps signed held signs moved after allowed all every rules one_message leaf_rule use_in use_of reused same_leaf say ballot_bytes be same fits_term fits_index fits_records same_request one_request no_stamp no_staler last_term term_from rising staler version1
told = (refl, refl, refl)
