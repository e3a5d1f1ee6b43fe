-- What two submissions show (document 01, "The report"): the fork index, and for each replica the charge that
-- its row has.
use Rattle.std.specs.Prelude.{Bool, cond, ℕ, zero, suc, ◌+◌, ◌*◌, eqb}
use mathlib.Core.List.{List, [], ◌∷◌, ◌++◌, flat_map}
use Rattle.std.proofs.Math.Option.{Option, some, none}
use Rattle.lm_format.specs.Uses.{Use}
use Rattle.roster.specs.Roster.{signature_size}
use Rattle.log_chain.specs.Claim.{Claim}
use Rattle.log_chain.specs.Difference.{differ_at}
use Rattle.log_chain.specs.Ends.{staler}
use Rattle.replica.specs.Charges.{Charge, clash, leaf_clash}
use Rattle.submission.specs.View.{View, committed, Slot, slots}
use Rattle.submission.specs.Validate.{slot_use, uses, form_of, view_of}

-- ---- the fork

-- the lowest index, committed in both, whose records differ
unfoldable pub fork : View → View → ℕ
fork a b = differ_at 1 (committed a) (committed b)

-- ---- the charges

-- the claims that replica k's signatures stand on
unfoldable pub says : ℕ → List Slot → List Claim
says k [] = []
says k (x ∷ xs) = cond (eqb x.replica k) (x.claim ∷ says k xs) (says k xs)

-- rules 1 to 4: what one of replica k's statements from the first and one from the second submission break
unfoldable pub charges : ℕ → List Slot → List Slot → List Charge
charges k xs ys = flat_map (λ c. flat_map (clash c) (says k ys)) (says k xs)

-- rule 5 (document 02, W5): what one use of a replica's leaves and another break
unfoldable pub leaf_charges : List Use → List Use → List Charge
leaf_charges us vs = flat_map (λ x. flat_map (leaf_clash x) vs) us

-- all rules; rule 5 wherever two of its signatures stand, by the use of a leaf that each is
unfoldable pub all_charges : (Slot → Use) → ℕ → List Slot → List Slot → List Charge
all_charges as_use k xs ys = let us = uses as_use k (xs ++ ys) in charges k xs ys ++ leaf_charges us us

-- ---- the rows

-- the rules' order for choosing a row (document 02, W6): 2, 1, 3, 4, 5
unfoldable pub rank : ℕ → ℕ
rank rule = cond (eqb rule 2) 0 (suc rule)

-- of the rules broken the first in this order and, for that rule, the lowest term or leaf number
unfoldable pub sooner : Charge → Charge → Bool
sooner c d = staler (rank c.rule) c.term (rank d.rule) d.term

unfoldable pub lower : Charge → Option Charge → Charge
lower c none = c
lower c (some d) = cond (sooner d c) d c

unfoldable pub lowest : List Charge → Option Charge
lowest [] = none
lowest (c ∷ cs) = some (lower c (lowest cs))

-- the rows of so many replicas from replica k on
unfoldable pub rows_from : (Slot → Use) → ℕ → ℕ → List Slot → List Slot → List (Option Charge)
rows_from as_use zero k xs ys = []
rows_from as_use (suc count) k xs ys =
    lowest (all_charges as_use k xs ys) ∷ rows_from as_use count (suc k) xs ys

-- a replica is named if its row has a charge: bit k - 1 for replica k
unfoldable pub bit : Option Charge → ℕ
bit none = 0
bit (some c) = 1

unfoldable pub mask_of : List (Option Charge) → ℕ
mask_of [] = 0
mask_of (row ∷ rows) = bit row + 2 * mask_of rows

-- ---- both

pub record Findings : Type 0 where
  pub fork : ℕ
  pub rows : List (Option Charge)

-- nine rows, for replicas 1 to 9
abbrev pub row_count : ℕ
row_count = 9

-- S is the bytes of a signature
unfoldable pub findings : (Slot → Use) → ℕ → View → View → Findings
findings as_use S a b =
    record { fork = fork a b; rows = rows_from as_use row_count 1 (slots S a) (slots S b) }

-- of two submissions under a roster
unfoldable pub found_in : List ℕ → List ℕ → List ℕ → Findings
found_in roster first second =
    let form = form_of roster in
    findings (slot_use form roster) (signature_size roster) (view_of roster first) (view_of roster second)
