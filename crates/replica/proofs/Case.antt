-- An act on a state with what is expected of it: the state after it, or none where the board rules or the leaf rule forbid it.
-- Assumes nothing.
use mathlib.Core.List.{List, ◌∷◌}
use mathlib.Core.Option.{Option}
use Prim.Native.Nat.{ℕ}
use lib.ListN.{replicate}
use Rattle.lm_format.specs.Leaf.{Leaf}
use Rattle.log_chain.specs.Log.{Record, last_term}
use Rattle.log_chain.specs.Claim.{Ballot, Claim, stamped as stamped_at, received as received_at, voted as voted_for}
use Rattle.replica.specs.Replica.{Signing, signing, State, Act}

pub record Case : Type 0 where
  pub replicas : ℕ
  pub start : State
  pub act : Act
  pub expected : Option State

unfoldable pub given : ℕ → State → Act → Option State → Case
given n s a expected = record { replicas = n; start = s; act = a; expected = expected }

unfoldable pub state : ℕ → Option Ballot → Option ℕ → List Record → List Signing → State
state t vote stamp log used = record { term = t; vote = vote; stamp = stamp; log = log; used = used }

-- a vote's fields, with the first byte of its last pointer
unfoldable pub ballot : ℕ → ℕ → ℕ → ℕ → ℕ → Ballot
ballot candidate t u j x = record { candidate = candidate; term = t; last_term = u; last_index = j; last_pointer = x ∷ replicate 31 0 }

-- a record of a term, with the first byte of its payload digest
unfoldable pub of : ℕ → ℕ → Record
of t x = record { term = t; digest = x ∷ replicate 31 0 }

-- a leaf used, and what it signed; a stamp and a receipt by the log up to their record, whose term they have
unfoldable pub used : Leaf → Claim → Signing
used leaf claim = signing leaf claim

unfoldable pub voted : Ballot → Claim
voted b = voted_for b

unfoldable pub stamped : List Record → Claim
stamped log = stamped_at (last_term log) log

unfoldable pub received : List Record → Claim
received log = received_at (last_term log) log
