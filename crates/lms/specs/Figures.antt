-- The marked figures of document 01, "Bench figures", that speak of signatures: what the definitions give,
-- and what the paper says. The list of all marked figures takes these up.
use Rattle.std.specs.Prelude.{◌≡◌, List, [], ◌∷◌, ℕ, replicate}
use Rattle.lm_digits.specs.Parameters.{row}
use Rattle.lm_digits.specs.Digits.{checksum}
use Rattle.lm_format.specs.Format.{signature_length}

pub record Figure : Type 0 where
  pub computed : ℕ
  pub paper : ℕ

unfoldable pub figure : ℕ → ℕ → Figure
figure computed paper = record { computed = computed; paper = paper }

-- each figure is as the paper says
unfoldable pub AllHold : List Figure → Type 0
AllHold [] = Unit
AllHold (f ∷ fs) = (f.computed ≡ f.paper) × AllHold fs

unfoldable pub signature_figures : List Figure
signature_figures =
    figure (signature_length (row 8 34 0) 5) 1292 ∷
    figure (signature_length (row 8 34 0) 25) 1932 ∷
    figure (checksum (row 8 34 0) (replicate 32 0)) 0x1FE0 ∷
    figure (checksum (row 4 67 4) (replicate 32 0)) 0x3C00 ∷
    figure (checksum (row 8 34 0) (replicate 32 255)) 0 ∷ []
