-- The signatures of replicas on one statement, a place for each replica from 1 on, and what a certificate has
-- of them (document 01, "A submission, read from its trailer": one signature per signer in rising order).
use Rattle.std.specs.Prelude.{List, [], ◌∷◌, ◌++◌, ℕ, ◌+◌, ◌*◌}
use Rattle.std.proofs.Math.Option.{Option, some, none}

unfoldable pub bit_of : Option (List ℕ) → ℕ
bit_of none = 0
bit_of (some g) = 1

-- the signers: bit k - 1 is a one where replica k has a signature
unfoldable pub signers_of : List (Option (List ℕ)) → ℕ
signers_of [] = 0
signers_of (c ∷ cs) = bit_of c + 2 * signers_of cs

unfoldable pub signature_of : Option (List ℕ) → List ℕ
signature_of none = []
signature_of (some g) = g

-- their signatures
unfoldable pub signatures_of : List (Option (List ℕ)) → List ℕ
signatures_of [] = []
signatures_of (c ∷ cs) = signature_of c ++ signatures_of cs
