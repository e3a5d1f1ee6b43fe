-- Rounds in runs are the rounds in one.
-- Assumes nothing.
use mathlib.Core.Path.{◌≡◌, ◌∙◌}
use mathlib.Core.List.{List}
use Prim.Native.Nat.{ℕ, zero, suc, ◌+◌}
use native.Mathlib.Nat.{zero-add, suc-add, add-zero, add-suc}
use lib.ListN.{get_or}
use Rattle.sha256.specs.declared.State.{State}
use Rattle.sha256_tables.specs.Constants.{constants}
use Rattle.sha256.specs.Sha256.{round, rounds}

pub rounds-add : (m n t : ℕ) (w : List ℕ) (s : State) → rounds (m + n) t w s ≡ rounds n (t + m) w (rounds m t w s)
unfolding rounds
rounds-add zero n t w s = rw (zero-add, add-zero)
rounds-add (suc m) n t w s =
    rw (suc-add, add-suc, ← suc-add t m) (rounds-add m n (suc t) w (round s (get_or constants t 0) (get_or w t 0)))

-- all rounds, eight at a time
pub rounds_eights : (w : List ℕ) (s : State)
    → rounds 64 0 w s
    ≡ rounds 8 56 w (rounds 8 48 w (rounds 8 40 w (rounds 8 32 w (rounds 8 24 w (rounds 8 16 w (rounds 8 8 w (rounds 8 0 w s)))))))
rounds_eights w s =
    rounds-add 8 56 0 w s ∙ rounds-add 8 48 8 w _ ∙ rounds-add 8 40 16 w _ ∙ rounds-add 8 32 24 w _
    ∙ rounds-add 8 24 32 w _
    ∙ rounds-add 8 16 40 w _
    ∙ rounds-add 8 8 48 w _
