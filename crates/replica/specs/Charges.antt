-- The rules (document 01, "The report"): 1 to 4, what one claim from the first and one from the second
-- submission break, and 5 (document 02, W5), what two uses of a replica's leaves do.
use Rattle.std.specs.Prelude.{Bool, true, false, not, cond, ◌≡◌, ℕ, ltb, eqb, length}
use mathlib.Core.List.{List, [], ◌∷◌, Memᴰ}
use Rattle.log_chain.specs.Log.{Form, Record}
use Rattle.log_chain.specs.Ends.{staler}
use Rattle.log_chain.specs.Difference.{agree}
use Rattle.lm_format.specs.Leaf.{leaf_number}
use Rattle.lm_format.specs.Uses.{Use, reused}
use Rattle.replica.specs.Replica.{Signing, Act, first, keeps, signed, use_in, same_request}
use Rattle.log_chain.specs.Claim.{Ballot, Claim, stamped, received, voted}

pub record Charge : Type 0 where
  pub rule : ℕ
  pub term : ℕ

unfoldable pub charge : Bool → ℕ → ℕ → List Charge
charge true rule term = record { rule = rule; term = term } ∷ []
charge false rule term = []

-- different votes of one term, also for the same candidate (document 02, W4)
unfoldable pub two_votes : Ballot → Ballot → Bool
two_votes a b = cond (eqb a.term b.term) (not (same_request a b)) false

-- stamps of one term on logs that differ within both
unfoldable pub two_stamps : ℕ → List Record → ℕ → List Record → Bool
two_stamps t l u m = cond (eqb t u) (not (agree l m)) false

-- after a receipt for record (t, c), a vote of a higher term for a staler log
unfoldable pub stale_vote : ℕ → List Record → Ballot → Bool
stale_vote t l b = cond (ltb t b.term) (staler b.last_term b.last_index t (length l)) false

-- the first submission's claim first
unfoldable pub clash : Claim → Claim → List Charge
clash (voted a) (voted b) = charge (two_votes a b) 1 a.term
clash (stamped t l) (stamped u m) = charge (two_stamps t l u m) 2 t
clash (received t l) (voted b) = charge (stale_vote t l b) 3 b.term
clash (voted b) (received t l) = charge (stale_vote t l b) 4 b.term
clash (voted a) (stamped u m) = []
clash (stamped t l) (voted b) = []
clash (stamped t l) (received u m) = []
clash (received t l) (stamped u m) = []
clash (received t l) (received u m) = []

-- rule 5: the row has the leaf's number in place of a term
unfoldable pub leaf_clash : Use → Use → List Charge
leaf_clash x y = charge (reused x y) 5 (leaf_number x.leaf)

-- ---- the claim

-- a replica that keeps the board rules and the leaf rule from the first state on signs no two claims that
-- break a rule, whichever submission has the one and which the other: one claim over the whole list of acts
unfoldable pub NeverCharged : Form → ℕ → Type 0
NeverCharged form n =
    (acts : List Act) → keeps form n first acts ≡ true
    → (x y : Signing) → Memᴰ x (signed first acts) → Memᴰ y (signed first acts)
    → (clash x.claim y.claim ≡ []) × (leaf_clash (use_in form x) (use_in form y) ≡ [])
