-- The marked figures of document 01, "Bench figures", as one list: what the definitions give, and what the
-- paper says.
use mathlib.Core.List.{List, [], ◌∷◌, ◌++◌, flat_map}
use Rattle.std.proofs.Math.Option.{Option, some, none}
use Rattle.std.specs.Prelude.{ℕ, replicate, drop}
use Rattle.words.specs.BigEndian.{be}
use Rattle.lms.specs.Figures.{Figure, figure, signature_figures}
use Rattle.roster.specs.Roster.{name_size, quorum, roster_number}
use Rattle.log_chain.specs.Log.{Record}
use Rattle.log_chain.specs.Claim.{Ballot, received, voted}
use Rattle.replica.specs.Charges.{Charge, clash}
use Rattle.submission.specs.Validate.{validate}
use Rattle.forensics.specs.Findings.{lowest}

-- ---- what they speak of

-- keys of tree type 5 and one-time type 4, each with its replica's number in its other bytes
unfoldable pub sample_key : ℕ → List ℕ
sample_key k = be 4 5 ++ be 4 4 ++ replicate 48 k

-- a roster that says n, with the keys of some replicas
unfoldable pub sample_roster : ℕ → List ℕ → List ℕ
sample_roster n ks = replicate name_size 7 ++ be 2 n ++ flat_map sample_key ks

-- a submission of 44 bytes: the roster's name, version 1, and H, L and distances 0
unfoldable pub sample_submission : List ℕ
sample_submission = replicate name_size 7 ++ flat_map (be 4) (0 ∷ 0 ∷ 0 ∷ 0 ∷ 0 ∷ 0 ∷ 1 ∷ [])

-- after a receipt (term 3, index 7), a vote in term 5 on the last term and index given: the rule broken, 0
-- for none
unfoldable pub rule_of : Option Charge → ℕ
rule_of none = 0
rule_of (some c) = c.rule

unfoldable pub receipt_then_vote : ℕ → ℕ → ℕ
receipt_then_vote u j =
    let r : Record = record { term = 3; digest = replicate 32 0 } in
    let ballot : Ballot =
    record { candidate = 1; term = 5; last_term = u; last_index = j; last_pointer = replicate 32 0 } in
    rule_of (lowest (clash (received 3 (replicate 7 r)) (voted ballot)))

-- ---- the list

unfoldable pub audit_figures : List Figure
audit_figures =
    figure (quorum 3) 2 ∷
    figure (quorum 4) 3 ∷
    figure (quorum 9) 5 ∷
    figure (roster_number (sample_roster 2 (1 ∷ 2 ∷ []))) 2 ∷
    figure (roster_number (sample_roster 10 (1 ∷ 2 ∷ 3 ∷ 4 ∷ 5 ∷ 6 ∷ 7 ∷ 8 ∷ 9 ∷ 10 ∷ []))) 2 ∷
    -- a roster that is accepted, beside the paper's figures
    figure (roster_number (sample_roster 3 (1 ∷ 2 ∷ 3 ∷ []))) 0 ∷
    figure (receipt_then_vote 3 6) 3 ∷
    figure (receipt_then_vote 3 7) 0 ∷
    figure (receipt_then_vote 4 1) 0 ∷
    figure (validate (sample_roster 3 (1 ∷ 2 ∷ 3 ∷ [])) sample_submission) 0 ∷
    figure (validate (sample_roster 3 (1 ∷ 2 ∷ 3 ∷ [])) (drop 1 sample_submission)) 5 ∷ []

unfoldable pub marked_figures : List Figure
marked_figures = signature_figures ++ audit_figures
