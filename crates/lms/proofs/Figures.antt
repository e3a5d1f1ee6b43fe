-- The figures of signatures, by computation; and the length of a signature of one-time type 4 at every height.
-- Assumes nothing.
use mathlib.Core.Path.{◌≡◌, refl}
use Prim.Native.Nat.{ℕ, ◌+◌, ◌*◌}
use Rattle.lm_digits.specs.Parameters.{row, message_digits}
use Rattle.lm_digits.specs.Digits.{coef, to_largest, sum, checksum}
use Rattle.lm_format.specs.Format.{one_time_bytes, path_at, signature_length}
use Rattle.lms.specs.Figures.{figure, AllHold, signature_figures}

pub signature_figures_lem : AllHold signature_figures
unfolding figure AllHold signature_figures signature_length path_at one_time_bytes row checksum sum to_largest coef message_digits
signature_figures_lem = (refl, (refl, (refl, (refl, (refl, tt)))))

pub length_at : (h : ℕ) → signature_length (row 8 34 0) h ≡ 1132 + 32 * h
unfolding signature_length path_at one_time_bytes row
length_at h = refl
