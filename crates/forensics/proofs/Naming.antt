-- Naming, of views: where committed records differ the mask of the rows is not 0. Some replica from 1 to n has a charge of rules 1 to 4, and the
-- rows reach n.
-- Assumes nothing.
use mathlib.Core.Path.{◌≡◌}
use mathlib.Core.Bool.{false}
use mathlib.Core.List.Memᴰ
use Prim.Native.Nat.{ℕ, ◌≤◌, ◌<◌}
use native.Mathlib.Nat.{le_trans}
use lib.Dec.{lit≤}
use Rattle.lm_format.specs.Uses.{Use}
use Rattle.log_chain.specs.Log.{Form}
use Rattle.log_chain.specs.Difference.{agree}
use Rattle.submission.specs.View.{View, committed, Slot, slots}
use Rattle.submission.proofs.Accepted.{Sound}
use Rattle.forensics.specs.Findings.{row_count, all_charges, findings, mask_of}
use Rattle.forensics.proofs.Blame.{blame, named}
use Rattle.forensics.proofs.Rows.{mask-positive}

pub naming : (as_use : Slot → Use) (form : Form) (n S : ℕ) → 0 < n → n ≤ row_count → (a b : View) → Sound form n a → Sound form n b
    → agree (committed a) (committed b) ≡ false → 0 < mask_of (findings as_use S a b).rows
unfolding findings all_charges
naming as_use form n S some-replica fits a b sound_a sound_b differ =
    let k = named (blame form n S (le_trans fits (lit≤ tt)) a b sound_a sound_b differ) some-replica in
    mask-positive as_use (slots S a) (slots S b) row_count k.0 k.1 (le_trans k.2 fits) k.3 (Memᴰ.append_left _ k.4)
