-- Check 10 for leader certificates, on which check 15 of their votes builds.
-- Assumes nothing.
use mathlib.Core.Bool.{Bool}
use mathlib.Core.List.{List, map}
use Prim.Native.Nat.{ℕ}
use Rattle.refusal.specs.Checks.{every}
use Rattle.submission.specs.View.{Certificate}
use Rattle.submission.specs.Validate.{quorate}

unfoldable pub quorate_all : ℕ → List Certificate → Bool
quorate_all n cs = every (quorate n) (map (λ c. c.signers) cs)
