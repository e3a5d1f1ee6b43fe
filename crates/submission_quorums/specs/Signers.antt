-- The signers of leader certificates, on which check 10 is (document 01, "What stops an audit").
use Rattle.std.specs.Prelude.{List, map, ℕ}
use Rattle.submission.specs.Reading.{certificates}

-- those of so many leader certificates from a place on
unfoldable pub leader_masks : ℕ → ℕ → List ℕ → ℕ → ℕ → List ℕ
leader_masks w S s count at = map (λ c. c.signers) (certificates w S s count at)
