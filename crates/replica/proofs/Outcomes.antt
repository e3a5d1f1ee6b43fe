-- The board rules and the leaf rule on some 390 acts, as the separately written auditor's own rules have them.
-- Assumes nothing.
use mathlib.Core.Path.{◌≡◌}
use mathlib.Core.Bool.{not, cond}
use mathlib.Core.List.{List, [], ◌∷◌, map}
use mathlib.Core.Option.{Option, some, none}
use lib.ListN.{replicate}
use Rattle.words.specs.BigEndian.{be, same}
use Rattle.words.proofs.Same.{true_same}
use Rattle.refusal.specs.Checks.{all, every}
use Rattle.lm_format.specs.Leaf.{same_leaf}
use Rattle.lm_format.specs.Uses.{use_of, reused}
use Rattle.log_chain.specs.Log.{version1, term_from, last_term}
use Rattle.log_chain.specs.Claim.{place, ballot_bytes, say}
use Rattle.log_chain.specs.Ends.{rising, staler}
use Rattle.replica.specs.Replica.{Signing, signing, State, fits_term, fits_index, fits_records, same_request, one_request, no_stamp, no_staler, rules, signs, use_in, one_message, leaf_rule, allowed, moved, after}
use Rattle.replica.proofs.Case.{Case, given, state, ballot, of, used, voted, stamped, received}
use Rattle.replica.proofs.ReplicaActs.{raises, votes, runs, adds, stamps, receipts, others, cases}

-- the auditor lists a leaf once, also where it signed the same again
once : List Signing → List Signing
once [] = []
once (x ∷ xs) = cond (every (λ u. not (same_leaf u.leaf x.leaf)) xs) (x ∷ once xs) (once xs)

listed : State → State
listed s = record { term = s.term; vote = s.vote; stamp = s.stamp; log = s.log; used = once s.used }

outcome : Case → Option State
outcome c = cond (allowed (version1 (replicate 16 0)) c.replicas c.start c.act) (some (listed (after c.start c.act))) none

-- pointers are not computed: each is the same as itself
outcomes : map outcome cases ≡ map (λ (c : Case). c.expected) cases
unfolding outcome listed once cases raises votes runs adds stamps receipts others given state ballot of used voted stamped received version1 allowed all every rules
    signs signing use_in use_of reused same_leaf say place ballot_bytes be one_message leaf_rule moved after fits_term fits_index fits_records same_request one_request same no_stamp no_staler
    last_term term_from rising staler
outcomes = simp true_same
