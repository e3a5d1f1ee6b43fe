-- The use that a stamp is, as the code holds its fields.
use Rattle.std.specs.Prelude.{cond, List, [], ◌∷◌, ℕ, ◌+◌, eqb}
use Rattle.words.specs.BigEndian.{number_at}
use Rattle.sha256.specs.Sha256.{bytes_of}
use Rattle.lm_format.specs.Leaf.{leaf_at}
use Rattle.lm_format.specs.Uses.{Use, use_of}
use Rattle.roster.specs.Roster.{cluster}
use Rattle.log_chain.specs.Sizes.{place_statement}
use Rattle.submission_signatures.specs.declared.stamps.StampPart.{StampPart}

-- where the certificate's candidate is replica k
unfoldable pub stamp_uses : List ℕ → List ℕ → ℕ → ℕ → StampPart → List Use
stamp_uses roster s w k x =
    let at = x.certificate in
    let term = number_at w s (at + 2) in
    let message = place_statement 1 (cluster roster) w term x.index (bytes_of x.pointer) in
    cond (eqb (number_at 2 s at) k) (use_of (leaf_at s x.signature) message ∷ []) []
