-- The terms of a view as its rules compare them, and all that the rules charge a replica with from two views: what the code's tenures stand for.
-- Assumes nothing.
use mathlib.Core.List.{List, map}
use Prim.Native.Nat.{ℕ}
use lib.ListN.{length}
use Rattle.std.specs.Prelude.{Option}
use Rattle.replica.specs.Charges.{Charge}
use Rattle.submission.specs.View.{View, Lead, leads}
use Rattle.forensics_charges.specs.declared.Tenure.{Tenure}
use Rattle.forensics_charges.specs.Charges.{receipts, ruled_by}

unfoldable pub tenure : Lead → Tenure
tenure l =
    let c = l.certificate in
    let b = c.ballot in
    record {
      term = b.term;
      request = record { candidate = b.candidate; last_term = b.last_term; last_index = b.last_index; last_pointer = b.last_pointer };
      signers = c.signers;
      end = length l.term.upto;
    }

unfoldable pub tenures : View → List Tenure
tenures v = map tenure (leads v)

unfoldable pub ruled : ℕ → Option ℕ → View → View → List Charge
ruled k difference a b = ruled_by k difference (tenures a) (tenures b) (receipts a) (receipts b)
