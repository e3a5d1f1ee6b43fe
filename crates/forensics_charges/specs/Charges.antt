-- What rules 1 to 4 charge a replica with, from terms and receipts (document 01, "The report"), and the
-- meaning of a row.
use Rattle.std.specs.Prelude.{cond, ℕ, zero, suc, ◌-◌, take, get_or, unwrap_or, Some, None}
use Rattle.std.specs.Prelude as code
use mathlib.Core.List.{List, [], ◌∷◌, ◌++◌, map, flat_map}
use Rattle.std.proofs.Math.Option.{Option, some, none}
use Rattle.log_chain.specs.Log.{Record, last_term}
use Rattle.replica.specs.Charges.{Charge, charge}
use Rattle.submission.specs.View.{Commit, View}
use Rattle.forensics.specs.Findings as forensics
use Rattle.forensics_charges.specs.declared.Tenure.{Tenure}
use Rattle.forensics_charges.specs.Rules.{two_requests, reached, two_logs, forgotten}
use Rattle.forensics_charges.specs.declared.Receipt.{Receipt}
use Rattle.forensics_charges.specs.declared.Rule.{Rule}
use Rattle.forensics_charges.specs.declared.Rule.TheVariants.{TwoVotes, TwoStamps, StaleVote}
use Rattle.forensics_charges.specs.declared.Rule.TheVariants.{StaleVoteExchanged, OneLeaf}
use Rattle.forensics_charges.specs.declared.Charge as declared
use Rattle.forensics_charges.specs.declared.Findings.{Findings}

-- a replica's row: what it is charged with, if it is named
abbrev pub Row : Type 0
Row = code.Option declared.Charge

-- where two logs differ first: at no index, or at one from 1
unfoldable pub difference_of : ℕ → code.Option ℕ
difference_of zero = None
difference_of (suc i) = Some (suc i)

-- ---- the receipts of a submission

-- without a commit certificate nobody has given one
unfoldable pub receipts_by : Option Commit → List Record → code.Option Receipt
receipts_by none log = None
receipts_by (some c) log =
    Some (record { term = last_term (take c.index log); index = c.index; signers = c.signers })

unfoldable pub receipts : View → code.Option Receipt
receipts v = receipts_by v.commit v.log

-- and no index is committed
unfoldable pub committed_index : code.Option Receipt → ℕ
committed_index None = 0
committed_index (Some r) = r.index

-- ---- the charges of the rules, for replica k

module _ (k : ℕ) where
  -- the charges from a term of the first submission and one of the second
  unfoldable pub between : code.Option ℕ → Tenure → Tenure → List Charge
  between difference x y =
      charge (two_requests k x y) 1 x.term ++ charge (two_logs k difference x y) 2 x.term

  unfoldable pub among_terms : code.Option ℕ → List Tenure → List Tenure → List Charge
  among_terms difference xs ys = flat_map (λ x. flat_map (between difference x) ys) xs

  -- the charges from the receipts of the one and the terms of the other
  unfoldable pub after_receipts : ℕ → code.Option Receipt → List Tenure → List Charge
  after_receipts rule None ys = []
  after_receipts rule (Some r) ys = flat_map (λ y. charge (forgotten k r y) rule y.term) ys

-- all of them, from two submissions whose logs differ first at an index
unfoldable pub ruled_by :
    ℕ → code.Option ℕ → List Tenure → List Tenure → code.Option Receipt → code.Option Receipt → List Charge
ruled_by k difference xs ys first second =
    among_terms k difference xs ys ++ after_receipts k 3 first ys ++ after_receipts k 4 second xs

-- the rows of so many replicas from replica k on
unfoldable pub rows_by : (ℕ → Option Charge) → ℕ → ℕ → List (Option Charge)
rows_by row zero k = []
rows_by row (suc count) k = row k ∷ rows_by row count (suc k)

-- ---- the fork

-- from the first difference of the logs and the receipts of both: an index that both have committed
unfoldable pub fork_of : code.Option ℕ → code.Option Receipt → code.Option Receipt → ℕ
fork_of difference x y =
    cond (reached difference (committed_index x) (committed_index y)) (unwrap_or difference 0) 0

-- ---- the lowest charge

-- the lower of the lowest charges of two lists, where there are any
unfoldable pub least : Option Charge → Option Charge → Option Charge
least none y = y
least (some c) y = some (forensics.lower c y)

-- ---- the meaning of a row

-- the numbers of the rules
abbrev pub number : Rule → ℕ
number TwoVotes = 1
number TwoStamps = 2
number StaleVote = 3
number StaleVoteExchanged = 4
number OneLeaf = 5

unfoldable pub meaning : declared.Charge → Charge
meaning c = record { rule = c.rule; term = c.term }

unfoldable pub charge_of : Row → Option Charge
charge_of None = none
charge_of (Some c) = some (meaning c)

-- that of replica k, in the rows of replicas 1 to 9
unfoldable pub row_at : List Row → ℕ → Option Charge
row_at rows k = charge_of (get_or rows (k - 1) None)

-- fork index 0 for none
unfoldable pub findings_of : Findings → forensics.Findings
findings_of f = record { fork = unwrap_or f.fork 0; rows = map charge_of f.rows }
