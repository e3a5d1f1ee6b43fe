-- Replica k's signature in a certificate, and the uses that its signatures are, with terms of w bytes.
use Rattle.std.specs.Prelude.{List, ℕ, zero, suc, ◌+◌, ◌*◌, ◌/◌, ◌%◌, ◌-◌}
use Rattle.roster.specs.Roster.{cluster}
use Rattle.log_chain.specs.Log.{with_terms}
use Rattle.lm_format.specs.Uses.{Use}
use Rattle.submission.specs.View.{Slot}
use Rattle.submission.specs.Validate.{slot_use}

-- the bits of a mask
abbrev pub mask_bits : ℕ
mask_bits = 16

-- how many of the first i bits are ones
unfoldable pub ones_below : ℕ → ℕ → ℕ
ones_below zero mask = 0
ones_below (suc i) mask = mask % 2 + ones_below i (mask / 2)

-- where it stands, after those of the signers before it, with signatures of S bytes from a place on
unfoldable pub signature_place : ℕ → ℕ → ℕ → ℕ → ℕ
signature_place mask k S from = from + S * ones_below (k - 1) mask

abbrev pub slot_use_in : ℕ → List ℕ → Slot → Use
slot_use_in w roster = slot_use (with_terms w (cluster roster)) roster
