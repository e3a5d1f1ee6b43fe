-- What document 02, W7, says of the chain steps that a check returns: a claim on their count n, for every
-- key, message and signature.
use Rattle.std.specs.Prelude.{Some, ◌≡◌, Bool, true, false, cond, List, ℕ, ◌+◌, ◌-◌, ◌*◌, ◌/◌, ◌^◌, ◌≤◌, ◌<◌}
use Rattle.words.specs.BigEndian.{number_at}
use Rattle.sha256.specs.Service.{too_long}
use Rattle.lm_digits.specs.declared.Parameters.{Parameters}
use Rattle.lm_digits.specs.Parameters.{one_time, byte_digits}
use Rattle.lm_digits.specs.Digits.{checksum}
use Rattle.lm_format.specs.Formed.{formed}
use Rattle.lms.specs.Check.{hash_of, keyed}

module _ (key message signature : List ℕ) where
  -- whether the check comes to the chains: the message is not too long, lengths and types are right, and the
  -- leaf number lies in the tree
  unfoldable pub reached : Bool
  reached = cond (too_long message) false (keyed false (λ o h. formed o h key signature) key)

  pub record StepsCounted (n : ℕ) : Type 0 where
    -- where it does not, the count is 0, and nowhere else
    pub none : reached ≡ false → n ≡ 0
    pub some : reached ≡ true → 0 < n
    -- for 8-bit digits it is 510 plus 255 for each whole 256 in the checksum,
    pub bytes : reached ≡ true → one_time (number_at 4 key 4) ≡ Some byte_digits
        → n ≡ 510 + 255 * (checksum byte_digits (hash_of key message signature) / 256)
    -- so it lies from 510 to 8,415
    pub range : reached ≡ true → one_time (number_at 4 key 4) ≡ Some byte_digits → (510 ≤ n) × (n ≤ 8415)
    -- for every width it is at most the number of chains times (2^w - 1)
    pub most : (o : Parameters) → one_time (number_at 4 key 4) ≡ Some o → n ≤ o.chains * (2 ^ o.bits - 1)
