-- The uses of a replica's leaves in two accepted submissions, and the row that they give (document 02, W5).
use Rattle.std.specs.Prelude.{List, ◌++◌, ℕ, ◌+◌, ◌*◌, ◌≤◌}
use Rattle.std.proofs.Math.Option.{Option}
use Rattle.lm_format.specs.Leaf.{leaf_size}
use Rattle.lm_format.specs.Uses.{Use}
use Rattle.replica.specs.Charges.{Charge}
use Rattle.submission.specs.View.{slots}
use Rattle.submission.specs.Validate.{leader_most, uses}
use Rattle.submission_parts.specs.Shapes.{view_in}
use Rattle.submission_signatures.specs.Checked.{Checked, PointersIn}
use Rattle.submission_uses.specs.Signed.{slot_use_in}
use Rattle.forensics.specs.Findings.{leaf_charges, lowest}
use Rattle.forensics_find.specs.declared.Side.{Side}

-- the most signatures of a replica in two submissions: 258
abbrev pub use_most : ℕ
use_most = 2 * (2 * leader_most + 1)

-- the side of a submission that is accepted
pub record Gatherable (roster s : List ℕ) (x : Side) : Type 0 where
  pub checked : Checked roster x.shape s
  pub pointed : PointersIn x.shape s x.pointers
  pub wide : leaf_size ≤ x.shape.size

-- the uses of replica k's leaves in it
unfoldable pub side_uses : List ℕ → List ℕ → Side → ℕ → List Use
side_uses roster s x k =
    uses (slot_use_in x.shape.width roster) k (slots x.shape.size (view_in x.shape s))

-- the row of replica k by rule 5
unfoldable pub leaf_row : List ℕ → List ℕ → List ℕ → Side → Side → ℕ → Option Charge
leaf_row roster a b x y k =
    let us = side_uses roster a x k ++ side_uses roster b y k in
    lowest (leaf_charges us us)
