-- Sizes that the code above asks about.
use Rattle.std.specs.Prelude.{ℕ}

-- the most replicas of a roster (document 01, "The roster")
abbrev pub replicas_most : ℕ
replicas_most = 9

-- the most bytes of a signature: S of tree type 9, with 25 levels (document 01, "Bench figures")
abbrev pub signature_most : ℕ
signature_most = 1932
