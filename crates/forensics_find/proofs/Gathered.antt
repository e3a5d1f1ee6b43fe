-- The uses of a replica's leaves in both submissions, as the buffer has them after the second.
-- Assumes nothing.
use mathlib.Core.Path.{◌≡◌, sym, ap, ◌∙◌}
use mathlib.Core.List.{List, [], ◌++◌, map, map-append}
use Prim.Native.Nat.{ℕ, ◌≤◌}
use Rattle.lm_format.specs.Uses.{Use}
use Rattle.submission.specs.Validate.{leader_most}
use Rattle.submission_parts.proofs.Shapes.{known-leaders}
use Rattle.forensics.specs.Findings.{leaf_charges}
use Rattle.submission_leaves.specs.Entries.{padded_use}
use Rattle.forensics_charges.proofs.LeafRows.{charges-padded}
use Rattle.forensics_find.specs.declared.Side.{Side}
use Rattle.forensics_find.specs.Leaves.{Gatherable}

pub few-leaders : (roster s : List ℕ) (x : Side) → Gatherable roster s x → x.shape.leaders ≤ leader_most
few-leaders roster s x k =
    let known = k.checked.counted.laid.known in
    rw (known-leaders _ _ known) known.bounds.leaders

pub both_gathered : (first second : List Use) {one both : List Use} → one ≡ [] ++ map padded_use first → both ≡ one ++ map padded_use second
    → leaf_charges both both ≡ leaf_charges (first ++ second) (first ++ second)
both_gathered first second e d =
    ap (λ z. leaf_charges z z) (d ∙ ap (λ z. z ++ map padded_use second) e ∙ sym (map-append padded_use first second)) ∙ charges-padded (first ++ second)
